-- What an honest drive and a steady card show of what they hold.
use Rattle.std.proofs.Common.{◌≡◌, ℕ, Bool, true, false, cond, List, [], ◌∷◌, length, refl, ◌∙◌, ap}
use Rattle.std.specs.Prelude.{Option, Some, None, option_map, nat_eq}
use Rattle.std.specs.FinMap.{get}
use Rattle.std.proofs.lemmas.Bool.{not_from_false, or_from, and_left}
use Rattle.bay_core.specs.declared.event.Event.{Event}
use Rattle.bay_core.specs.declared.event.FileInfo.{FileInfo}
use Rattle.bay_core.specs.Map.{Map, Lists}
use Rattle.bay_core.specs.Replay.{reads, dated}
use Rattle.bay_mem.specs.Files.{Files}
use Rattle.bay_mem.specs.State.{Holds, is_listed_as, is_other_size, is_false_size, lists_falsely, lists_truly}
use Rattle.bay_mem.specs.declared.lies.ListedAs.{ListedAs}

-- a listing of what a drive holds lists what the calls made of its files
pub lists_held : (start now : Files) (L : List Event) (d : ℕ) (files : List FileInfo) → Holds start L d now → Lists now.map now.dates files → Lists (reads start.map L d) (dated start.dates L d) files
lists_held start now L d files h l = record {
  once = l.once;
  same = λ q. l.same q ∙ ap (λ (m : Map). option_map length (get m q)) h.map;
  dated = λ q t has. l.dated q t (h.dates q t has);
}

-- a card of which no size is listed otherwise is steady
unlisted : (here rest : Bool) → cond here true rest ≡ false → (here ≡ false) × (rest ≡ false)
unlisted true rest none = absurd (cc none)
unlisted false rest none = (refl, none)

pub unlisted_truly : (listed : List ListedAs) (s : ℕ) (files : Files) → is_listed_as listed s ≡ false → lists_falsely listed s files ≡ false
unlisted_truly [] s files none = refl
unlisted_truly (l ∷ ls) s files none =
    let parts = unlisted (nat_eq l.s s) (is_listed_as ls s) none in
    or_from (is_false_size s files l) (lists_falsely ls s files) (and_left (nat_eq l.s s) (is_other_size l.size (get files.map l.path)) parts.0) (unlisted_truly ls s files parts.1)

pub truth_of_card : (listed : List ListedAs) (s : ℕ) (files : Option Files) → is_listed_as listed s ≡ false → lists_truly listed s files ≡ true
truth_of_card listed s None none = refl
truth_of_card listed s (Some files) none = not_from_false _ (unlisted_truly listed s files none)
