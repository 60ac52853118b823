-- How a run ends.
use Rattle.std.proofs.Common.{◌≡◌, inl, inr, ℕ, true, false, List, [], ◌∷◌, ◌++◌, refl, sym, ◌∙◌, ap, subst, append-nil}
use Rattle.bay_core.specs.declared.event.Event.{Event}
use Rattle.bay_core.specs.Replay.{Output}
use Rattle.bay_core.specs.World.{World}
use Rattle.bay_core.specs.Went.{Only, Called, Ran, say_call}
use Rattle.bay_core.specs.Looks.{IsUntouched, said}
use Rattle.bay_core.proofs.Runs.{went_such, went_none}
use Rattle.bay_core.proofs.Looking.{said_says}
use Rattle.last_lines.specs.Said.{Told, Untold}
use Rattle.last_lines.specs.Ends.{End, with_line, with_lines, with_status, EndCalls, Ended}
use Rattle.last_lines.proofs.Said.{told_one, untold_one, told_then, untold_early, untold_late, lines_keep, broken_keeps, broken_said}

-- a last line that was said
pub ended_said : (line text : List ℕ) (status : ℕ) (old new : World) → line ≡ text → Called Output (Ran (say_call line ∷ []) true) true old new → Ended (with_line text status) status old new
ended_said line text status old new same called = record { went = went_such (λ L is. inl (is, refl)) (told_one line text same called); status = inl refl }

-- one that could not be said
pub ended_unsaid : (line text : List ℕ) (status : ℕ) (old new : World) → line ≡ text → Called Output (Ran (say_call line ∷ []) false) false old new → Ended (with_line text status) 5 old new
ended_unsaid line text status old new same called =
    let u = untold_one line text same called in
    record { went = went_such (λ L b. inr (b, refl)) u.went; status = inr ((λ none. cc none), refl, u.cause) }

-- no line
pub ended_silent : (status : ℕ) (w : World) → Ended (with_status status) status w w
ended_silent status w = record { went = went_such (λ L none. inl (none, refl)) (went_none (Only Output) w); status = inl refl }

pub ended_as : (e f : End) (result : ℕ) (old new : World) → e ≡ f → Ended e result old new → Ended f result old new
ended_as e f result old new same h = subst (λ x. Ended x result old new) same h

-- an end changes nothing
pub end_keeps : (end : End) (result : ℕ) (L : List Event) → EndCalls end result L → IsUntouched L
end_keeps end result L (inl (is, same)) = lines_keep end.lines L is
end_keeps end result L (inr (b, same)) = broken_keeps end.lines L b

-- first lines of it were said
pub record EndSaid (end : End) (L : List Event) : Type 0 where
  pub last : List (List ℕ)
  pub more : List (List ℕ)
  pub lines_are : end.lines ≡ last ++ more
  pub said_are : said L ≡ last

pub end_said : (end : End) (result : ℕ) (L : List Event) → EndCalls end result L → EndSaid end L
end_said end result L (inl (is, same)) = record { last = end.lines; more = []; lines_are = sym (append-nil end.lines); said_are = ap said is ∙ said_says end.lines }
end_said end result L (inr (b, same)) = record { last = b.first; more = b.next ∷ b.rest; lines_are = b.lines_are; said_are = broken_said end.lines L b }

-- two lines, one after the other
pub ended_both : (first second : List ℕ) (status : ℕ) (old mid new : World) → Told (first ∷ []) old mid → Told (second ∷ []) mid new → Ended (with_lines (first ∷ second ∷ []) status) status old new
ended_both first second status old mid new one two = record { went = went_such (λ L is. inl (is, refl)) (told_then (first ∷ []) (second ∷ []) one two); status = inl refl }

-- some lines, of which one could not be said
ended_untold : (lines : List (List ℕ)) (status : ℕ) (old new : World) → (lines ≡ [] → ⊥) → Untold lines old new → Ended (with_lines lines status) 5 old new
ended_untold lines status old new some u = record { went = went_such (λ L b. inr (b, refl)) u.went; status = inr (some, refl, u.cause) }

pub ended_first : (first second : List ℕ) (status : ℕ) (old new : World) → Untold (first ∷ []) old new → Ended (with_lines (first ∷ second ∷ []) status) 5 old new
ended_first first second status old new unsaid = ended_untold (first ∷ second ∷ []) status old new (λ none. cc none) (untold_early (first ∷ []) (second ∷ []) unsaid)

pub ended_second : (first second : List ℕ) (status : ℕ) (old mid new : World) → Told (first ∷ []) old mid → Untold (second ∷ []) mid new → Ended (with_lines (first ∷ second ∷ []) status) 5 old new
ended_second first second status old mid new one unsaid = ended_untold (first ∷ second ∷ []) status old new (λ none. cc none) (untold_late (first ∷ []) (second ∷ []) one unsaid)
