-- The three digests of one list.
use Rattle.std.specs.Prelude.{ℕ, List}
use Rattle.md5.specs.Md5.{md5}
use Rattle.sha1.specs.Sha1.{sha1}
use Rattle.digest_set.specs.Xxh.{xxh}
use Rattle.digest_set.specs.declared.triple.Triple.{Triple}

-- MD5, SHA-1 and XXH64 of this one list
abbrev pub triple : List ℕ → Triple
triple bytes = record { md5 = md5 bytes; sha1 = sha1 bytes; xxh = xxh bytes }
