-- What the opening of a run calls, and what follows its failures.
use Rattle.std.proofs.Common.{◌≡◌, inl, inr, ℕ, suc, ◌+◌, ◌<◌, ◌≤◌, Bool, true, List, [], ◌∷◌, ◌++◌, length, refl, sym, ap, ◌∙◌, subst, arith, append_assoc}
use Rattle.std.specs.Prelude.{codes, Option, Some, None}
use Rattle.std.proofs.lemmas.Bool.{false≢true}
use Rattle.bay_core.specs.declared.event.Event.{Event}
use Rattle.bay_core.specs.declared.event.Event.TheVariants.{Say}
use Rattle.bay_core.specs.Looks.{has_failed, Tiles, piece, Looks, AtMost}
use Rattle.bay_core.specs.Paths.{journal_path}
use Rattle.bay_core.specs.Replay.{Device, Drive, calls_on, device_of}
use Rattle.bay_core.specs.Went.{AllOn, Only}
use Rattle.bay_core.proofs.Looking.{tiles_look, no_looks}
use Rattle.bay_core.proofs.Replays.{calls_on-append}
use Rattle.bay_core.proofs.Runs.{none_on}
use Rattle.drive_journal.specs.Found.{JournalFound, NoJournal, Journal, Vanished, TooLong, JournalReads}
use Rattle.report_text.specs.Losses.{dropped_fault_text}
use Rattle.fresh_opening.specs.Sights.{Sight, Dropped, Found, HaltCalls, FoundCalls, SightCalls, SightsCalls}
use Rattle.run_state.specs.Runs.{begins_with}
use Rattle.run_ends.specs.Losses.{ByFault}
use Rattle.run_ends.proofs.Lines.{none_there, loss_of}
use Rattle.run_calls.proofs.Lists.{split_at, only_one, on_at}
use Rattle.job_story.specs.Ends.{JobEnd}
use Rattle.job_calls.specs.Calls.{MayFollow}
use Rattle.job_calls.proofs.Follows.{Halts, looks_answered, off_drive}

-- ---- calls on one drive

-- the drive says nothing
pub mute_drive : (d : ℕ) (L : List Event) → AllOn (Only (Drive d)) L → (front back : List Event) (line : List ℕ) (ok : Bool) → L ≡ front ++ Say line ok ∷ back → ⊥
mute_drive d L on front back line ok is = absurd (cc (on_at (Only (Drive d)) front back (Say line ok) (subst (AllOn (Only (Drive d))) is on)))

-- answered looks at drive d alone
pub record LooksAt (d : ℕ) (L : List Event) : Type 0 where
  pub on : AllOn (Only (Drive d)) L
  pub looks : Looks L

tiles_on : (d : ℕ) (path : List ℕ) (at : ℕ) (L : List Event) → Tiles d path at L → AllOn (Only (Drive d)) L
unfolding Tiles AllOn
tiles_on d path at [] t = tt
tiles_on d path at (e ∷ L) ((want, got, is), more) = (ap device_of is, tiles_on d path (at + length (piece e)) L more)

tiles_at : (d : ℕ) (path : List ℕ) (L : List Event) → Tiles d path 0 L → LooksAt d L
tiles_at d path L t = record { on = tiles_on d path 0 L t; looks = tiles_look d path 0 L t }

none_at : (d : ℕ) (L : List Event) → L ≡ [] → LooksAt d L
none_at d L none = subst (LooksAt d) (sym none) (record { on = none_on (Only (Drive d)); looks = no_looks })

journal_at : (d : ℕ) (size : Option ℕ) (found : JournalFound) (L : List Event) → JournalReads d size found L → LooksAt d L
journal_at d size NoJournal L (none, is) = none_at d L is
journal_at d size (Journal bytes) L (within, r) = tiles_at d journal_path L r.tiles
journal_at d size Vanished L (within, r) = tiles_at d journal_path L r.tiles
journal_at d size TooLong L (inl (n, is, over, none)) = none_at d L none
journal_at d size TooLong L (inr (within, r)) = tiles_at d journal_path L r.tiles

pub found_at : (d : ℕ) (size : List ℕ → Option ℕ) (found : JournalFound) (L : List Event) → FoundCalls d size found L → LooksAt d L
unfolding AllOn Looks
found_at d size found L f =
    let reads = journal_at d _ found f.calls.reads f.calls.such in
    subst (LooksAt d) (sym f.calls.is) (record { on = (refl, reads.on); looks = (refl, reads.looks) })

-- what failed among looks that stopped is the last call
at_most : (at : Option Device) (last : List Event) → AtMost at last → (front back : List Event) (e : Event) → last ≡ front ++ e ∷ back → back ≡ []
at_most None last none front back e is = absurd (none_there front back e (sym none ∙ is))
at_most (Some x) last (inl none) front back e is = absurd (none_there front back e (sym none ∙ is))
at_most (Some x) last (inr (one, same, fails)) front back e is = (only_one one e front back (sym same ∙ is)).1

pub failed_halt : (d : ℕ) (at : Option Device) (L : List Event) → HaltCalls d at L → (front back : List Event) (e : Event) → L ≡ front ++ e ∷ back → has_failed e ≡ true → (device_of e ≡ Drive d) × (back ≡ [])
failed_halt d at L h front back e is bad =
    let on : device_of e ≡ Drive d = on_at (Only (Drive d)) front back e (subst (AllOn (Only (Drive d))) is h.on) in
    elim (split_at h.stops.looks h.stops.last front back e (sym h.stops.is ∙ is)) [
      | inl found ↦ absurd (looks_answered h.stops.looks h.stops.answered front found.0 e found.1 bad)
      | inr found ↦ (on, at_most at h.stops.last h.stops.failed found.0 back e found.2)
    ]

-- ---- looks at drives, one after another

pub off_sight : (k d : ℕ) (x : Sight) (L : List Event) → (k ≡ d → ⊥) → SightCalls d x L → calls_on k L ≡ []
off_sight k d Dropped L apart t =
    let halt : calls_on k t.first ≡ [] = off_drive k d apart t.first t.here.on in
    let line : calls_on k t.second ≡ [] = ap (calls_on k) t.there in
    ap (calls_on k) t.is ∙ calls_on-append k t.first t.second ∙ (λ i. halt i ++ line i)
off_sight k d (Found size found) L apart f = off_drive k d apart L (found_at d size found L f).on

pub off_sights : (k d : ℕ) (xs : List Sight) (L : List Event) → k < d → SightsCalls d xs L → calls_on k L ≡ []
unfolding SightsCalls
off_sights k d [] L low none = ap (calls_on k) none
off_sights k d (x ∷ xs) L low t =
    let look : calls_on k t.first ≡ [] = off_sight k d x t.first (λ is. omega (arith, is, low)) t.here in
    let more : calls_on k t.second ≡ [] = off_sights k (suc d) xs t.second (omega (arith, low)) t.there in
    ap (calls_on k) t.is ∙ calls_on-append k t.first t.second ∙ (λ i. look i ++ more i)

-- a line among looks at n drives from drive d on is that of a drive that was dropped, which is not looked at any more
pub record LostHere (d n : ℕ) (line : List ℕ) (ok : Bool) (back : List Event) : Type 0 where
  pub number : ℕ
  pub low : d ≤ number
  pub high : number < d + n
  pub says : line ≡ dropped_fault_text number
  pub heard : ok ≡ true
  pub off : calls_on number back ≡ []

line_in_sight : (d : ℕ) (x : Sight) (L : List Event) → SightCalls d x L → (front back : List Event) (line : List ℕ) (ok : Bool) → L ≡ front ++ Say line ok ∷ back → (line ≡ dropped_fault_text d) × (ok ≡ true) × (back ≡ [])
line_in_sight d Dropped L t front back line ok is = elim (split_at t.first t.second front back (Say line ok) (sym t.is ∙ is)) [
  | inl found ↦ absurd (mute_drive d t.first t.here.on front found.0 line ok found.1)
  | inr found ↦
      let one = only_one (Say (dropped_fault_text d) true) (Say line ok) found.0 back (sym t.there ∙ found.2) in
      let same : Say line ok ≡ Say (dropped_fault_text d) true = one.0 in
      (cc same, cc same, one.1)
]
line_in_sight d (Found size found) L f front back line ok is = absurd (mute_drive d L (found_at d size found L f).on front back line ok is)

line_in_sights : (d : ℕ) (xs : List Sight) (L : List Event) → SightsCalls d xs L → (front back : List Event) (line : List ℕ) (ok : Bool) → L ≡ front ++ Say line ok ∷ back → LostHere d (length xs) line ok back
unfolding SightsCalls
line_in_sights d [] L none front back line ok is = absurd (none_there front back (Say line ok) (sym none ∙ is))
line_in_sights d (x ∷ xs) L t front back line ok is = elim (split_at t.first t.second front back (Say line ok) (sym t.is ∙ is)) [
  | inl found ↦
      let h = line_in_sight d x t.first t.here front found.0 line ok found.1 in
      let behind : back ≡ t.second = found.2 ∙ ap (λ (l : List Event). l ++ t.second) h.2 in
      record { number = d; low = omega arith; high = omega arith; says = h.0; heard = h.1; off = ap (calls_on d) behind ∙ off_sights d (suc d) xs t.second (omega arith) t.there }
  | inr found ↦
      let h = line_in_sights (suc d) xs t.second t.there found.0 back line ok found.2 in
      record { number = h.number; low = (let low = h.low in omega (arith, low)); high = (let high = h.high in omega (arith, high)); says = h.says; heard = h.heard; off = h.off }
]

-- behind a look that failed comes the line of its drive, which is not looked at any more
pub record FailedHere (n : ℕ) (back : List Event) (e : Event) : Type 0 where
  pub number : ℕ
  pub high : number < n
  pub on : device_of e ≡ Drive number
  pub rest : List Event
  pub told : back ≡ Say (dropped_fault_text number) true ∷ rest
  pub off : calls_on number rest ≡ []

failed_in_sight : (d : ℕ) (x : Sight) (L : List Event) → SightCalls d x L → (front back : List Event) (e : Event) → L ≡ front ++ e ∷ back → has_failed e ≡ true → (device_of e ≡ Drive d) × (back ≡ Say (dropped_fault_text d) true ∷ [])
failed_in_sight d Dropped L t front back e is bad = elim (split_at t.first t.second front back e (sym t.is ∙ is)) [
  | inl found ↦
      let h = failed_halt d (Some (Drive d)) t.first t.here front found.0 e found.1 bad in
      (h.0, found.2 ∙ ap (λ (l : List Event). l ++ t.second) h.1 ∙ t.there)
  | inr found ↦
      let one = only_one (Say (dropped_fault_text d) true) e found.0 back (sym t.there ∙ found.2) in
      absurd (false≢true (sym (ap has_failed one.0) ∙ bad))
]
failed_in_sight d (Found size found) L f front back e is bad = absurd (looks_answered L (found_at d size found L f).looks front back e is bad)

failed_in_sights : (d : ℕ) (xs : List Sight) (L : List Event) → SightsCalls d xs L → (front back : List Event) (e : Event) → L ≡ front ++ e ∷ back → has_failed e ≡ true → FailedHere (d + length xs) back e
unfolding SightsCalls
failed_in_sights d [] L none front back e is bad = absurd (none_there front back e (sym none ∙ is))
failed_in_sights d (x ∷ xs) L t front back e is bad = elim (split_at t.first t.second front back e (sym t.is ∙ is)) [
  | inl found ↦
      let h = failed_in_sight d x t.first t.here front found.0 e found.1 bad in
      record { number = d; high = omega arith; on = h.0; rest = t.second; told = found.2 ∙ ap (λ (l : List Event). l ++ t.second) h.1; off = off_sights d (suc d) xs t.second (omega arith) t.there }
  | inr found ↦
      let h = failed_in_sights (suc d) xs t.second t.there found.0 back e found.2 bad in
      record { number = h.number; high = (let high = h.high in omega (arith, high)); on = h.on; rest = h.rest; told = h.told; off = h.off }
]

-- ---- and what comes behind them

-- no call is on a drive that was dropped in these looks
abbrev pub LostOff : ℕ → List Event → List Event → Type 0
LostOff n L more = (k : ℕ) → k < n → (front back : List Event) → L ≡ front ++ Say (dropped_fault_text k) true ∷ back → calls_on k more ≡ []

module _ (end : JobEnd) (result : ℕ) (xs : List Sight) (few : length xs ≤ 8) (L more : List Event) (calls : SightsCalls 0 xs L) (off : LostOff (length xs) L more) where
  both_off : (k : ℕ) (back : List Event) → calls_on k back ≡ [] → calls_on k more ≡ [] → calls_on k (back ++ more) ≡ []
  both_off k back one two = calls_on-append k back more ∙ (λ i. one i ++ two i)

  one_behind : (front rest : List Event) (e x : Event) → front ++ e ∷ (x ∷ rest) ≡ (front ++ e ∷ []) ++ x ∷ rest
  one_behind front rest e x = sym (append_assoc front (e ∷ []) (x ∷ rest))

  sights_failed : (front back : List Event) (e : Event) → L ≡ front ++ e ∷ back → has_failed e ≡ true → MayFollow end result (device_of e) (back ++ more)
  sights_failed front back e is bad =
      let h = failed_in_sights 0 xs L calls front back e is bad in
      let high : h.number < length xs = let some = h.high in omega (arith, some) in
      let at : L ≡ (front ++ e ∷ []) ++ Say (dropped_fault_text h.number) true ∷ h.rest = is ∙ ap (λ (l : List Event). front ++ e ∷ l) h.told ∙ one_behind front h.rest e (Say (dropped_fault_text h.number) true) in
      let none : calls_on h.number (back ++ more) ≡ [] = both_off h.number back (ap (calls_on h.number) h.told ∙ h.off) (off h.number high (front ++ e ∷ []) h.rest at) in
      subst (λ (x : Device). MayFollow end result x (back ++ more)) (sym h.on)
      (subst (λ (l : List Event). MayFollow end result (Drive h.number) (l ++ more)) (sym h.told) ((true, refl), ap (λ (l : List Event). calls_on h.number (l ++ more)) (sym h.told) ∙ none))

  sights_dropped : (front back : List Event) (d : ℕ) → d < 8 → (line : List ℕ) (ok : Bool) → L ≡ front ++ Say line ok ∷ back → begins_with (codes "dropped") d line ≡ true → calls_on d (back ++ more) ≡ []
  sights_dropped front back d small line ok is begins =
      let h = line_in_sights 0 xs L calls front back line ok is in
      let high : h.number < length xs = let some = h.high in omega (arith, some) in
      let same : h.number ≡ d = loss_of h.number d ByFault (omega (arith, high, few)) (omega (arith, small)) (ap (begins_with (codes "dropped") d) (sym h.says) ∙ begins) in
      let at : L ≡ front ++ Say (dropped_fault_text h.number) true ∷ back = is ∙ (λ i. front ++ Say (h.says i) (h.heard i) ∷ back) in
      subst (λ (n : ℕ). calls_on n (back ++ more) ≡ []) same (both_off h.number back h.off (off h.number high front back at))

  pub sights_halt : Halts end result L more
  sights_halt = record { failed = sights_failed; dropped = sights_dropped }
