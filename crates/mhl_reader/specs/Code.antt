-- How the values of the code are seen, and when a function gives what a definition says.
use Rattle.std.specs.Prelude.{◌≡◌, ℕ, ◌+◌, ◌^◌, ◌<◌, length, Bool, true, false, List, map, reverse, Option, Some, None, Result, Ok, Err}
use Rattle.markup.specs.declared.token.Token.{Token}
use Rattle.markup.specs.declared.token.Token.TheVariants as tokens
use Rattle.mhl_reader.specs.declared.error.ReadError.{ReadError}
use Rattle.mhl_reader.specs.declared.error.ReadError.TheVariants.{Memory}
use Rattle.mhl_reader.specs.declared.found.HashLeaves.{HashLeaves}
use Rattle.mhl_reader.specs.declared.reader.Open.{Open}
use Rattle.mhl_reader.specs.declared.reader.Open.TheVariants as opened
use Rattle.mhl_reader.specs.declared.reader.Reader.{Reader}
use Rattle.mhl_reader.specs.Faults.{Base, before, in_list, in_hash, in_hash_leaf, in_creator, in_creator_leaf, after, State}

-- a refusal is that of the definition, but for want of memory
abbrev pub Fails : {Y : Type 0} → ReadError → Result Y ReadError → Type 0
Fails Memory read = Unit {0}
Fails e read = read ≡ Err e

-- what a function returned, seen by view, is what the definition gives, unless memory was wanting
abbrev pub Gives : {X Y : Type 0} → (X → Y) → Result X ReadError → Result Y ReadError → Type 0
Gives view (Ok x) read = read ≡ Ok (view x)
Gives view (Err e) read = Fails e read

-- the base that is open, with the text of its leaf
abbrev pub open_seen : List ℕ → Open → Base
open_seen text opened.Before = before
open_seen text opened.List = in_list
open_seen text (opened.Hash place leaves) = in_hash place leaves
open_seen text (opened.HashLeaf hash leaves leaf place) = in_hash_leaf hash leaves leaf place text
open_seen text (opened.Creator leaves) = in_creator leaves
open_seen text (opened.CreatorLeaf leaves leaf) = in_creator_leaf leaves leaf text
open_seen text opened.After = after

-- the state of a reader
abbrev pub reader_seen : Reader → State
reader_seen r = record {
  base = open_seen r.text.items r.base;
  found = record { creator = r.creator; entries = r.entries };
  skipped = reverse (map (λ n. n.now) r.skipped.items);
}

-- a leaf is open
abbrev pub is_leaf : Base → Bool
is_leaf (in_hash_leaf hash h leaf place t) = true
is_leaf (in_creator_leaf c leaf t) = true
is_leaf _ = false

-- the list has ended
abbrev pub is_after : Base → Bool
is_after after = true
is_after _ = false

-- the leaves with one more, or the fault
abbrev pub leaf_read : Option HashLeaves → ReadError → Result HashLeaves ReadError
leaf_read (Some leaves) fault = Ok leaves
leaf_read None fault = Err fault

-- the places of a run of text are numbers of 64 bits
abbrev pub RunFits : ℕ → Token → Type 0
RunFits place (tokens.Text run) = place + length run.now < 2 ^ 64
RunFits place _ = Unit {0}
