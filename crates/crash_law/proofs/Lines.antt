-- Lines among the calls of a run.
use Rattle.std.proofs.Common.{◌≡◌, inl, inr, ℕ, ◌≤◌, Bool, true, false, List, [], ◌∷◌, ◌++◌, refl, sym, ap, ◌∙◌, subst, arith}
use Rattle.bay_core.specs.declared.event.Event.{Event}
use Rattle.bay_core.specs.declared.event.Event.TheVariants.{AttachSource, AttachDrive, AttachFailed, SourceList, SourceRead, DriveList, DriveRead, Write, Sync, Rename, Remove, Moment, Pick, Say}
use Rattle.bay_core.specs.Replay.{Device, Drive, Output, device_of}
use Rattle.bay_core.specs.Looks.{Here}
use Rattle.bay_core.specs.World.{World}
use Rattle.bay_core.specs.Went.{AllOn, Only, Ran, Went, NoCall, say_call}
use Rattle.bay_core.proofs.Runs.{went_such, went_on, went_then}
use Rattle.crash_law.specs.Protocol.{Protocol, Announced, told_after}
use Rattle.crash_law.specs.Lines.{LineHas, AllLines, IsLine}

-- the lines of two lists of calls
pub AllLines-append : (Q : List ℕ → Type 0) (A B : List Event) → AllLines Q A → AllLines Q B → AllLines Q (A ++ B)
unfolding AllLines
AllLines-append Q [] B a b = b
AllLines-append Q (e ∷ A) B a b = (a.0, AllLines-append Q A B a.1 b)

-- a call on a drive is no line
no_line : (Q : List ℕ → Type 0) (d : ℕ) (e : Event) → device_of e ≡ Drive d → LineHas Q e
no_line Q d (Say line ok) on = absurd (cc on)
no_line Q d (AttachDrive k place) on = tt
no_line Q d (AttachSource n place) on = tt
no_line Q d (SourceList n got) on = tt
no_line Q d (SourceRead n path at want got) on = tt
no_line Q d (AttachFailed place) on = tt
no_line Q d (DriveList k got) on = tt
no_line Q d (DriveRead k path at want got) on = tt
no_line Q d (Write k path at bytes ok) on = tt
no_line Q d (Sync k ok) on = tt
no_line Q d (Rename k from to ok) on = tt
no_line Q d (Remove k path ok) on = tt
no_line Q d (Moment t) on = tt
no_line Q d (Pick n) on = tt

-- calls on a drive have no lines
pub lines_none : (Q : List ℕ → Type 0) (d : ℕ) (L : List Event) → AllOn (Only (Drive d)) L → AllLines Q L
unfolding AllOn AllLines
lines_none Q d [] on = tt
lines_none Q d (e ∷ L) on = (no_line Q d e on.0, lines_none Q d L on.1)

-- the call of a line, said or not
pub said_lines : (line : List ℕ) (ok : Bool) (L : List Event) → Ran (say_call line ∷ []) ok L → AllLines (IsLine line) L
unfolding Ran AllLines
said_lines line true L (rest, is, none) = subst (AllLines (IsLine line)) (sym (is ∙ ap (λ (l : List Event). Say line true ∷ l) none)) (refl, tt)
said_lines line false L (inl none) = subst (AllLines (IsLine line)) (sym none) tt
said_lines line false L (inr (inl last)) = subst (AllLines (IsLine line)) (sym last) (refl, tt)
said_lines line false L (inr (inr (rest, is, more))) = absurd more

-- calls on a drive, among those on it or the output
pub went_quiet : {P : List Event → Type 0} {old new : World} (Q : List ℕ → Type 0) (d : ℕ) → Went (Only (Drive d)) P old new → Went (Here d) (AllLines Q) old new
went_quiet {P} {old} {new} Q d w =
    let quiet : Went (Only (Drive d)) (AllLines Q) old new = record {
      told = λ all now. let m = w.told all now in record { before = m.before; since = m.since; was = m.was; is = m.is; on = m.on; such = lines_none Q d m.since m.on };
      later = w.later;
      others = w.others;
      attached = w.attached;
    } in
    went_on (λ x on. inl on) quiet

-- so the call of a line
pub went_said : (ok : Bool) {old new : World} (line : List ℕ) (d : ℕ) → Went (Only Output) (Ran (say_call line ∷ []) ok) old new → Went (Here d) (AllLines (IsLine line)) old new
went_said ok line d w = went_on (λ x on. inr on) (went_such (said_lines line ok) w)

-- one run and then another
pub went_lines_then : {On : Device → Type 0} {old mid new : World} (Q : List ℕ → Type 0) → Went On (AllLines Q) old mid → Went On (AllLines Q) mid new → Went On (AllLines Q) old new
went_lines_then Q one two = went_such (λ L t. subst (AllLines Q) (sym t.is) (AllLines-append Q t.first t.second t.here t.there)) (went_then one two)

-- lines of one kind are of a wider one
pub more_lines : (Q S : List ℕ → Type 0) → ((line : List ℕ) → Q line → S line) → (L : List Event) → AllLines Q L → AllLines S L
unfolding AllLines
more_lines Q S so [] lines = tt
more_lines Q S so (e ∷ L) lines = (has e lines.0, more_lines Q S so L lines.1)
  where
    has : (e : Event) → LineHas Q e → LineHas S e
    has (Say line ok) h = so line h
    has (AttachDrive k place) h = tt
    has (AttachSource n place) h = tt
    has (SourceList n got) h = tt
    has (SourceRead n path at want got) h = tt
    has (AttachFailed place) h = tt
    has (DriveList k got) h = tt
    has (DriveRead k path at want got) h = tt
    has (Write k path at bytes ok) h = tt
    has (Sync k ok) h = tt
    has (Rename k from to ok) h = tt
    has (Remove k path ok) h = tt
    has (Moment t) h = tt
    has (Pick n) h = tt

-- lines that announce nothing for this drive
pub told_away : (P : Protocol) (Q : List ℕ → Type 0) → ((line : List ℕ) → Q line → P.announces line ≡ 0) → (L : List Event) (told : ℕ) → AllLines Q L → Announced P told L ≡ told
unfolding AllLines
told_away P Q none [] told lines = refl
told_away P Q none (e ∷ L) told lines = ap (λ n. Announced P n L) (same e lines.0) ∙ told_away P Q none L told lines.1
  where
    same : (e : Event) → LineHas Q e → told_after P e told ≡ told
    same (Say line ok) h = let zero = none line h in omega (arith, zero)
    same (AttachDrive k place) h = refl
    same (AttachSource n place) h = refl
    same (SourceList n got) h = refl
    same (SourceRead n path at want got) h = refl
    same (AttachFailed place) h = refl
    same (DriveList k got) h = refl
    same (DriveRead k path at want got) h = refl
    same (Write k path at bytes ok) h = refl
    same (Sync k ok) h = refl
    same (Rename k from to ok) h = refl
    same (Remove k path ok) h = refl
    same (Moment t) h = refl
    same (Pick n) h = refl

-- lines that announce no more than was announced
pub told_low : (P : Protocol) (told : ℕ) (L : List Event) → AllLines (λ line. P.announces line ≤ told) L → Announced P told L ≡ told
unfolding AllLines
told_low P told [] low = refl
told_low P told (e ∷ L) low = ap (λ n. Announced P n L) (same e low.0) ∙ told_low P told L low.1
  where
    same : (e : Event) → LineHas (λ line. P.announces line ≤ told) e → told_after P e told ≡ told
    same (Say line ok) h = omega (arith, h)
    same (AttachDrive k place) h = refl
    same (AttachSource n place) h = refl
    same (SourceList n got) h = refl
    same (SourceRead n path at want got) h = refl
    same (AttachFailed place) h = refl
    same (DriveList k got) h = refl
    same (DriveRead k path at want got) h = refl
    same (Write k path at bytes ok) h = refl
    same (Sync k ok) h = refl
    same (Rename k from to ok) h = refl
    same (Remove k path ok) h = refl
    same (Moment t) h = refl
    same (Pick n) h = refl

-- no call has no line
pub no_lines : (Q : List ℕ → Type 0) (L : List Event) → NoCall L → AllLines Q L
unfolding AllLines
no_lines Q L none = subst (AllLines Q) (sym none) tt
