mod ListWords
mod FolderWords
mod ListRows
mod OffloadRow
