-- The bytes of a label come back from where they are kept.
use Rattle.std.proofs.Common.{◌≡◌, ℕ, List, length, take, sym, ◌∙◌, ap}
use Rattle.std.specs.Prelude.{None}
use Rattle.std.proofs.Math.Seq.{take-append_seam}
use Rattle.path_text.specs.Label.{label_refusal_of}
use Rattle.path_text.specs.Stored.{stored, Keeps}

take-stored : (text : List ℕ) → take (length text) (stored text) ≡ text
unfolding stored
take-stored text = take-append_seam text _

pub stored_back : (text bytes : List ℕ) → bytes ≡ stored text → take (length text) bytes ≡ text
stored_back text bytes is = ap (take (length text)) is ∙ take-stored text

pub keeps : (text bytes : List ℕ) → bytes ≡ stored text → label_refusal_of text ≡ None → Keeps bytes (length text)
keeps text bytes is none =
    let back : take (length text) bytes ≡ text = stored_back text bytes is in
    record {
      label = ap label_refusal_of back ∙ none;
      long = ap length back;
      rest = ap stored back ∙ sym is;
    }
