-- The kinds of digest that a list shows.
use Rattle.std.specs.Prelude.{Bool, ◌||◌}
use Rattle.path_text.specs.declared.kinds.Kinds.{Kinds}

-- at least one kind
abbrev pub has_kind : Kinds → Bool
has_kind kinds = kinds.md5 || kinds.sha1 || kinds.xxh
