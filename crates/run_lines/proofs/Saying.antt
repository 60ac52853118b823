-- The lines among calls, as calls are added.
use Rattle.std.proofs.Common.{◌≡◌, ◌⊎◌, inl, inr, ℕ, zero, suc, Bool, true, false, cond, List, [], ◌∷◌, ◌++◌, refl, sym, ap, ◌∙◌, subst, arith, append-nil}
use Rattle.std.specs.Prelude.{Contains}
use Rattle.std.specs.List.{filter}
use Rattle.std.proofs.lemmas.Grind.{flat_map-append}
use Rattle.std.proofs.lemmas.List.Elements.{Contains-append_left, Contains-append_right, Contains-append_cases}
use Rattle.bay_core.specs.declared.event.Event.{Event}
use Rattle.bay_core.specs.declared.event.Event.TheVariants.{Say}
use Rattle.bay_core.specs.Replay.{Device, Drive, Output, Clock}
use Rattle.bay_core.specs.World.{World}
use Rattle.bay_core.specs.Went.{AllOn, Only, Went, Ran, say_call}
use Rattle.bay_core.proofs.Runs.{all_ran}
use Rattle.fan_copier.specs.Turning.{Touches}
use Rattle.offload_law.specs.Clear.{IsSaid}
use Rattle.run_state.specs.Acts.{Says}
use Rattle.run_state.specs.Runs.{is_about, IsAboutNone, AreBeside}
use Rattle.run_state.specs.State.{Ordered, Drives}
use Rattle.run_lines.specs.Lines.{line_in, lines_in, Among, none, own, other}
use Rattle.run_lines.proofs.Since.{Since, since_none, since_more}

-- ---- lines among calls

pub lines_append : (A B : List Event) → lines_in (A ++ B) ≡ lines_in A ++ lines_in B
lines_append A B = flat_map-append line_in A B

pub lines_more : (A B : List Event) (added : List (List ℕ)) → lines_in B ≡ added → lines_in (A ++ B) ≡ lines_in A ++ added
lines_more A B added is = lines_append A B ∙ ap (λ (l : List (List ℕ)). lines_in A ++ l) is

-- devices that are not the output
abbrev pub IsSilent : (Device → Type 0) → Type 0
IsSilent On = (y : Device) → On y → y ≡ Output → ⊥

pub no_lines : (On : Device → Type 0) → IsSilent On → (B : List Event) → AllOn On B → lines_in B ≡ []
unfolding AllOn
no_lines On off [] on = refl
no_lines On off (Say line ok ∷ B) on = absurd (off Output on.0 refl)
no_lines On off (e ∷ B) on = no_lines On off B on.1

pub drive_silent : (d : ℕ) → IsSilent (Only (Drive d))
drive_silent d y on is = absurd (cc (sym on ∙ is))

pub clock_silent : IsSilent (Only Clock)
clock_silent y on is = absurd (cc (sym on ∙ is))

pub copy_silent : (s : ℕ) (live : List Bool) → IsSilent (Touches s live)
copy_silent s live y (inl card) is = absurd (cc (sym card ∙ is))
copy_silent s live y (inr (inl pick)) is = absurd (cc (sym pick ∙ is))
copy_silent s live y (inr (inr (d, on, drive))) is = absurd (cc (sym drive ∙ is))

-- one line, said or not
abbrev pub IsOneLine : List ℕ → Bool → List Event → Type 0
IsOneLine line true B = B ≡ Say line true ∷ []
IsOneLine line false B = (B ≡ []) ⊎ (B ≡ Say line false ∷ [])

pub one_line : (line : List ℕ) (ok : Bool) (B : List Event) → Ran (say_call line ∷ []) ok B → IsOneLine line ok B
unfolding Ran
one_line line true B ran = all_ran (say_call line ∷ []) B ran
one_line line false B (inl unseen) = inl unseen
one_line line false B (inr (inl one)) = inr one
one_line line false B (inr (inr (rest, is, more))) = absurd more

-- a line among calls is one that was said, whatever the answer
pub said_line : (L : List Event) (line : List ℕ) → IsSaid L line → Contains (lines_in L) line
said_line [] line (ok, (k, inside, is)) = absurd (omega (arith, inside))
said_line (e ∷ L) line (ok, (zero, inside, is)) = Contains-append_left (line_in e) (lines_in L) line (subst (λ (f : Event). Contains (line_in f) line) (sym is) (0, omega arith, refl))
said_line (e ∷ L) line (ok, (suc k, inside, is)) = Contains-append_right (line_in e) (lines_in L) line (said_line L line (ok, (k, omega (arith, inside), is)))

nothing : (line : List ℕ) → Contains [] line → ⊥
nothing line (k, inside, is) = absurd (omega (arith, inside))

line_here : (e : Event) (line : List ℕ) → Contains (line_in e) line → (ok : Bool) × (e ≡ Say line ok)
line_here (Say l ok) line (zero, inside, is) = (ok, ap (λ (t : List ℕ). Say t ok) is)
line_here (Say l ok) line (suc k, inside, is) = absurd (omega (arith, inside))
line_here e line has = absurd (nothing line has)

said_later : (e : Event) (L : List Event) (line : List ℕ) → IsSaid L line → IsSaid (e ∷ L) line
said_later e L line (ok, (k, inside, is)) = (ok, (suc k, omega (arith, inside), is))

said_either : (e : Event) (L : List Event) (line : List ℕ) → (Contains (lines_in L) line → IsSaid L line) → Contains (line_in e) line ⊎ Contains (lines_in L) line → IsSaid (e ∷ L) line
said_either e L line rest (inl here) = let h = line_here e line here in (h.0, (0, omega arith, h.1))
said_either e L line rest (inr later) = said_later e L line (rest later)

pub line_said : (L : List Event) (line : List ℕ) → Contains (lines_in L) line → IsSaid L line
line_said [] line has = absurd (nothing line has)
line_said (e ∷ L) line has = said_either e L line (λ later. line_said L line later) (Contains-append_cases (line_in e) (lines_in L) line has)

-- ---- lines among others

contains_later : {X : Type 0} (y x : X) (xs : List X) → Contains xs x → Contains (y ∷ xs) x
contains_later y x xs (k, inside, is) = (suc k, omega (arith, inside), is)

later_or : {X : Type 0} (l line : List ℕ) (lines : List (List ℕ)) → Contains lines line ⊎ X → Contains (l ∷ lines) line ⊎ X
later_or l line lines (inl has) = inl (contains_later l line lines has)
later_or l line lines (inr not) = inr not

module _ {Other : List ℕ → Type 0} where
  pub among_then : {lines all more more_all : List (List ℕ)} → Among Other lines all → Among Other more more_all → Among Other (lines ++ more) (all ++ more_all)
  among_then none two = two
  among_then (own one) two = own (among_then one two)
  among_then (other o one) two = other o (among_then one two)

  pub among_more : {lines all more_all : List (List ℕ)} → Among Other lines all → Among Other [] more_all → Among Other lines (all ++ more_all)
  among_more none two = two
  among_more (own one) two = own (among_more one two)
  among_more (other o one) two = other o (among_more one two)

  -- a line of these is among all
  pub among_has : {lines all : List (List ℕ)} (line : List ℕ) → Among Other lines all → Contains lines line → Contains all line
  among_has line none has = has
  among_has line (own one) (zero, inside, is) = (0, omega arith, is)
  among_has line (own {line = l} {all = rest} one) (suc k, inside, is) = contains_later l line rest (among_has line one (k, omega (arith, inside), is))
  among_has line (other {line = l} {all = rest} o one) has = contains_later l line rest (among_has line one has)

  -- a line among all is one of these, or another
  pub among_cases : {lines all : List (List ℕ)} (line : List ℕ) → Among Other lines all → Contains all line → Contains lines line ⊎ Other line
  among_cases line none has = inl has
  among_cases line (own one) (zero, inside, is) = inl (0, omega arith, is)
  among_cases line (own {line = l} {lines = ls} one) (suc k, inside, is) = later_or l line ls (among_cases line one (k, omega (arith, inside), is))
  among_cases line (other o one) (zero, inside, is) = inr (subst Other is o)
  among_cases line (other o one) (suc k, inside, is) = among_cases line one (k, omega (arith, inside), is)

  -- where the others are not about a drive, the lines about it are these
  pub among_about : (d : ℕ) → ((line : List ℕ) → Other line → is_about d line ≡ false) → {lines all : List (List ℕ)} → Among Other lines all → filter (λ (l : List ℕ). is_about d l) all ≡ filter (λ (l : List ℕ). is_about d l) lines
  among_about d off none = refl
  among_about d off (own {line = l} one) = ap (λ (rest : List (List ℕ)). cond (is_about d l) (l ∷ rest) rest) (among_about d off one)
  among_about d off (other {line = l} {all = rest} o one) =
      ap (λ (b : Bool). cond b (l ∷ filter (λ (k : List ℕ). is_about d k) rest) (filter (λ (k : List ℕ). is_about d k) rest)) (off l o) ∙ among_about d off one

-- where there are no others, these are all
pub among_alone : {lines all : List (List ℕ)} → Among (λ (line : List ℕ). ⊥) lines all → all ≡ lines
among_alone none = refl
among_alone (own {line = l} one) = ap (λ (rest : List (List ℕ)). l ∷ rest) (among_alone one)
among_alone (other o one) = absurd o

-- what is beside a run are others' lines
pub beside_others : (Other : List ℕ → Type 0) (o : Ordered) (drives : Drives) → ((line : List ℕ) → IsAboutNone drives line → Other line) → (B : List Event) → AreBeside o drives B → Among Other [] (lines_in B)
unfolding AreBeside
beside_others Other o drives so [] are = none
beside_others Other o drives so (Say line ok ∷ B) are = other (so line are.0) (beside_others Other o drives so B are.1)
beside_others Other o drives so (e ∷ B) are = beside_others Other o drives so B are.1

-- ---- as calls are added

module _ (Other : List ℕ → Type 0) (start : World) where
  -- among the lines since the start are these, and others
  abbrev pub Speaks : List (List ℕ) → World → Type 0
  Speaks lines w = Since (λ L. Among Other lines (lines_in L)) start w

  pub speaks_none : Speaks [] start
  speaks_none = since_none start none

  -- calls without a line
  pub silent : {On : Device → Type 0} {P : List Event → Type 0} {w new : World} (lines : List (List ℕ)) → Went On P w new → IsSilent On → Speaks lines w → Speaks lines new
  silent {On} lines went off far = since_more far went (λ A B so on such. subst (Among Other lines) (sym (lines_more A B [] (no_lines On off B on) ∙ append-nil (lines_in A))) so)

  -- a line that was said
  pub aloud : {w new : World} (lines : List (List ℕ)) (line : List ℕ) → Says line true w new → Speaks lines w → Speaks (lines ++ line ∷ []) new
  aloud lines line says far = since_more far says.went (λ A B so on such.
      subst (Among Other (lines ++ line ∷ [])) (sym (lines_more A B (line ∷ []) (ap lines_in (one_line line true B such)))) (among_then so (own none)))

  -- a line that was not said may be seen
  pub failed : {w new : World} (lines : List (List ℕ)) (line : List ℕ) → Says line false w new → Speaks lines w
      → Since (λ L. Among Other lines (lines_in L) ⊎ Among Other (lines ++ line ∷ []) (lines_in L)) start new
  failed lines line says far = since_more far says.went (λ A B so on such. by A B so (one_line line false B such))
    where
      by : (A B : List Event) → Among Other lines (lines_in A) → IsOneLine line false B → Among Other lines (lines_in (A ++ B)) ⊎ Among Other (lines ++ line ∷ []) (lines_in (A ++ B))
      by A B so (inl unseen) = inl (subst (Among Other lines) (sym (lines_more A B [] (ap lines_in unseen) ∙ append-nil (lines_in A))) so)
      by A B so (inr seen) = inr (subst (Among Other (lines ++ line ∷ [])) (sym (lines_more A B (line ∷ []) (ap lines_in seen))) (among_then so (own none)))
