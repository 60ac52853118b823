-- What each drive holds is what the calls on it made of its files, as calls are added.
use Rattle.std.proofs.Common.{zero, suc, ◌≡◌, ◌≢◌, inl, inr, ℕ, ◌<◌, ◌≤◌, Bool, true, false, cond, List, [], ◌∷◌, ◌++◌, length, get_or, set, refl, sym, ◌∙◌, ap, subst, arith, length-set, get_or-set_same, get_or-set_other}
use Rattle.std.specs.Prelude.{Option, Some, None, slice_get, Result, Ok, Err, OnOk, OnErr, is_ok}
use Rattle.std.specs.FinMap.{get, remove, get-remove}
use Rattle.std.specs.Cmp.Lexicographic.{nat_list_cmp_total}
use Rattle.std.proofs.lemmas.Option.{slice_get_within, get_or_from_slice_get, slice_get-get_or}
use Rattle.std.proofs.lemmas.Bool.{cases_eq}
use Rattle.std.proofs.lemmas.Bool.Decides.{nat_tests}
use Rattle.bay_core.specs.declared.event.Event.{Event}
use Rattle.bay_core.specs.declared.event.Event.TheVariants.{AttachSource, AttachDrive, AttachFailed, SourceList, SourceRead, DriveList, DriveRead, Write, Sync, Rename, Remove, Moment, Pick, Say}
use Rattle.bay_core.specs.Map.{Map, Dates}
use Rattle.bay_core.specs.Replay.{Device, Source, Drive, Attaching, Output, Clock, Picker, device_of, is_on, changed, undated, replayed, redated, reads, dated}
use Rattle.std.specs.Option.{option_or}
use Rattle.bay_core.specs.Attach.{attached_by, last_from}
use Rattle.bay_core.proofs.Replays.{reads-append, dated-append, calls_elsewhere, reads_by_calls, dated_by_calls}
use Rattle.bay_mem.specs.Files.{Files, Agrees, Becomes}
use Rattle.bay_mem.specs.State.{State, Fixed, Keeps, Holds, IsKnown, IsThere, is_change, noted, rewritten, Rewrites}

-- a call that changes nothing
pub idle : (e : Event) (m : Map) → is_change e ≡ false → changed m e ≡ m
idle (Write d path at bytes true) m calm = absurd (cc calm)
idle (Write d path at bytes false) m calm = refl
idle (Rename d from to true) m calm = absurd (cc calm)
idle (Rename d from to false) m calm = refl
idle (Remove d path true) m calm = absurd (cc calm)
idle (Remove d path false) m calm = refl
idle (AttachDrive d place) m calm = absurd (cc calm)
idle (AttachSource n place) m calm = absurd (cc calm)
idle (AttachFailed place) m calm = refl
idle (SourceList n got) m calm = refl
idle (SourceRead n path at want got) m calm = refl
idle (DriveList d got) m calm = refl
idle (DriveRead d path at want got) m calm = refl
idle (Sync d ok) m calm = refl
idle (Moment t) m calm = refl
idle (Pick n) m calm = refl
idle (Say line ok) m calm = refl

kept_date : (b : Bool) (o : Option ℕ) (t : ℕ) → cond b None o ≡ Some t → o ≡ Some t
kept_date true o t e = absurd (cc e)
kept_date false o t e = e

-- a date that is known after a removal was known
pub known_before : (D : Dates) (p q : List ℕ) (t : ℕ) → get (remove D p) q ≡ Some t → get D q ≡ Some t
known_before D p q t has = kept_date _ _ t (sym (get-remove nat_list_cmp_total D p q) ∙ has)

-- a call makes no date known
pub fewer : (e : Event) (D N : Dates) → Agrees D N → Agrees (undated D e) N
fewer (Write d path at bytes ok) D N a q t has = a q t (known_before D path q t has)
fewer (Rename d from to ok) D N a q t has = a q t (known_before D from q t (known_before (remove D from) to q t has))
fewer (Remove d path ok) D N a q t has = a q t (known_before D path q t has)
fewer (AttachDrive d place) D N a q t has = a q t has
fewer (AttachSource n place) D N a q t has = a q t has
fewer (AttachFailed place) D N a q t has = a q t has
fewer (SourceList n got) D N a q t has = a q t has
fewer (SourceRead n path at want got) D N a q t has = a q t has
fewer (DriveList d got) D N a q t has = a q t has
fewer (DriveRead d path at want got) D N a q t has = a q t has
fewer (Sync d ok) D N a q t has = a q t has
fewer (Moment t0) D N a q t has = a q t has
fewer (Pick n) D N a q t has = a q t has
fewer (Say line ok) D N a q t has = a q t has

replay_idle : (b : Bool) (e : Event) (m : Map) → is_change e ≡ false → replayed m (cond b (e ∷ []) []) ≡ m
replay_idle true e m calm = idle e m calm
replay_idle false e m calm = refl

redate_idle : (b : Bool) (e : Event) (D N : Dates) → Agrees D N → Agrees (redated D (cond b (e ∷ []) [])) N
redate_idle true e D N a = fewer e D N a
redate_idle false e D N a = a

pub holds_idle : (m f : Files) (L : List Event) (d : ℕ) (e : Event) → is_change e ≡ false → Holds m L d f → Holds m (L ++ e ∷ []) d f
holds_idle m f L d e calm h = record {
  map = h.map ∙ sym (reads-append m.map L (e ∷ []) d ∙ replay_idle (is_on d (device_of e)) e (reads m.map L d) calm);
  dates = subst (λ (D : Dates). Agrees D f.dates) (sym (dated-append m.dates L (e ∷ []) d)) (redate_idle (is_on d (device_of e)) e (dated m.dates L d) f.dates h.dates);
}

replay_on : (b : Bool) (e : Event) (m : Map) → b ≡ true → replayed m (cond b (e ∷ []) []) ≡ changed m e
replay_on true e m on = refl
replay_on false e m on = absurd (cc on)

redate_on : (b : Bool) (e : Event) (D : Dates) → b ≡ true → redated D (cond b (e ∷ []) []) ≡ undated D e
redate_on true e D on = refl
redate_on false e D on = absurd (cc on)

pub holds_changed : (m old new : Files) (L : List Event) (d : ℕ) (e : Event) → is_on d (device_of e) ≡ true → Becomes e old new → Holds m L d old → Holds m (L ++ e ∷ []) d new
holds_changed m old new L d e on b h = record {
  map = b.map ∙ ap (λ n. changed n e) h.map ∙ sym (reads-append m.map L (e ∷ []) d ∙ replay_on (is_on d (device_of e)) e (reads m.map L d) on);
  dates = subst (λ (D : Dates). Agrees D new.dates) (sym (dated-append m.dates L (e ∷ []) d ∙ redate_on (is_on d (device_of e)) e (dated m.dates L d) on)) (b.dates (dated m.dates L d) h.dates);
}

pub holds_elsewhere : (m f : Files) (L : List Event) (d : ℕ) (e : Event) → is_on d (device_of e) ≡ false → Holds m L d f → Holds m (L ++ e ∷ []) d f
holds_elsewhere m f L d e off h = record {
  map = h.map ∙ sym (reads_by_calls m.map _ _ d (calls_elsewhere L e d off));
  dates = subst (λ (D : Dates). Agrees D f.dates) (sym (dated_by_calls m.dates _ _ d (calls_elsewhere L e d off))) h.dates;
}

-- a call of a known device is on no drive that is not attached
off_unknown : (f : Fixed) (x : Device) (b : ℕ) → IsKnown f x → length f.drives ≤ b → is_on b x ≡ false
off_unknown f (Drive d) b known past = let differ : b ≢ d = omega (arith, known, past) in grind (arith, nat_tests)
off_unknown f (Source s) b known past = refl
off_unknown f Attaching b known past = refl
off_unknown f Output b known past = refl
off_unknown f Clock b known past = refl
off_unknown f Picker b known past = refl

-- the first of two, where the second is none
or_none : (o : Option Device) → option_or o None ≡ o
or_none None = refl
or_none (Some x) = refl

or_or : (a b c : Option Device) → option_or (option_or a b) c ≡ option_or a (option_or b c)
or_or None b c = refl
or_or (Some x) b c = refl

-- the last call of some is asked first
pub last_end : (L : List Event) (e : Event) (place : List ℕ) → last_from place (L ++ e ∷ []) ≡ option_or (attached_by place e) (last_from place L)
last_end [] e place = sym (or_none (attached_by place e))
last_end (x ∷ L) e place = ap (λ (o : Option Device). option_or o (attached_by place x)) (last_end L e place) ∙ or_or (attached_by place e) (last_from place L) (attached_by place x)

-- a call that attaches nothing leaves the device that was attached last
last_same : (L : List Event) (e : Event) (place : List ℕ) → attached_by place e ≡ None → last_from place (L ++ e ∷ []) ≡ last_from place L
last_same L e place none = last_end L e place ∙ ap (λ (o : Option Device). option_or o (last_from place L)) none

pub still_there : (f : Fixed) (L : List Event) (e : Event) (place : List ℕ) → attached_by place e ≡ None → IsThere f (last_from place L) → IsThere f (last_from place (L ++ e ∷ []))
still_there f L e place none h = subst (IsThere f) (sym (last_same L e place none)) h

attaches_none : (e : Event) (place : List ℕ) → is_change e ≡ false → attached_by place e ≡ None
attaches_none (AttachDrive d from) place calm = absurd (cc calm)
attaches_none (AttachSource n from) place calm = absurd (cc calm)
attaches_none (AttachFailed from) place calm = refl
attaches_none (SourceList n got) place calm = refl
attaches_none (SourceRead n path at want got) place calm = refl
attaches_none (DriveList d got) place calm = refl
attaches_none (DriveRead d path at want got) place calm = refl
attaches_none (Write d path at bytes ok) place calm = refl
attaches_none (Sync d ok) place calm = refl
attaches_none (Rename d from to ok) place calm = refl
attaches_none (Remove d path ok) place calm = refl
attaches_none (Moment t) place calm = refl
attaches_none (Pick n) place calm = refl
attaches_none (Say line ok) place calm = refl

attaches_none_on : (e : Event) (place : List ℕ) (d : ℕ) → device_of e ≡ Drive d → attached_by place e ≡ None
attaches_none_on (AttachDrive n from) place d on = absurd (cc on)
attaches_none_on (AttachSource n from) place d on = absurd (cc on)
attaches_none_on (AttachFailed from) place d on = refl
attaches_none_on (SourceList n got) place d on = refl
attaches_none_on (SourceRead n path at want got) place d on = refl
attaches_none_on (DriveList n got) place d on = refl
attaches_none_on (DriveRead n path at want got) place d on = refl
attaches_none_on (Write n path at bytes ok) place d on = refl
attaches_none_on (Sync n ok) place d on = refl
attaches_none_on (Rename n from to ok) place d on = refl
attaches_none_on (Remove n path ok) place d on = refl
attaches_none_on (Moment t) place d on = refl
attaches_none_on (Pick n) place d on = refl
attaches_none_on (Say line ok) place d on = refl

pub keeps_noted : (s : State) (e : Event) → IsKnown s.fixed (device_of e) → is_change e ≡ false → Keeps s → Keeps (noted s e)
keeps_noted s e known calm k = record {
  cards = k.cards;
  drives = k.drives;
  contents = k.contents;
  holds = λ d m f start now. holds_idle m f s.events d e calm (k.holds d m f start now);
  unused = λ d past. calls_elsewhere s.events e d (off_unknown s.fixed (device_of e) d known past) ∙ k.unused d past;
  there = λ place. still_there s.fixed s.events e place (attaches_none e place calm) (k.there place);
}

on_itself : (d : ℕ) (x : Device) → x ≡ Drive d → is_on d x ≡ true
on_itself d x is = ap (is_on d) is ∙ grind (arith, nat_tests)

off_other : (d b : ℕ) (x : Device) → x ≡ Drive d → b ≢ d → is_on b x ≡ false
off_other d b x is differ = ap (is_on b) is ∙ grind (arith, nat_tests)

same_Some : {A : Type 0} (x y : A) → Some x ≡ Some y → x ≡ y
same_Some x y e = cc

pub keeps_rewritten : (s : State) (d : ℕ) (e : Event) (old new : Files) → d < length s.fixed.drives → device_of e ≡ Drive d → old ≡ get_or s.contents d old → Becomes e old new → Keeps s → Keeps (rewritten s d e new)
keeps_rewritten s d e old new known device at b k =
    let within : d < length s.contents = let same = k.contents in omega (arith, known, same) in record {
      cards = k.cards;
      drives = k.drives;
      contents = length-set s.contents d new ∙ k.contents;
      holds = λ c m f start now. elim (cases_eq c d) [
        | inl here ↦
            let start_d : slice_get s.fixed.drives d ≡ Some m = subst (λ n. slice_get s.fixed.drives n ≡ Some m) here start in
            let now_d : slice_get (set s.contents d new) d ≡ Some f = subst (λ n. slice_get (set s.contents d new) n ≡ Some f) here now in
            let is : new ≡ f = sym (get_or-set_same s.contents d new old within) ∙ get_or_from_slice_get _ d f old now_d in
            let was : slice_get s.contents d ≡ Some old = slice_get-get_or s.contents d old within ∙ ap Some (sym at) in
            subst (λ n. Holds m (s.events ++ e ∷ []) n f) (sym here) (subst (λ (x : Files). Holds m (s.events ++ e ∷ []) d x) is
            (holds_changed m old new s.events d e (on_itself d (device_of e) device) b (k.holds d m old start_d was)))
        | inr there ↦
            let in_c : c < length s.contents = let h = slice_get_within _ c f now in omega (arith, h, length-set s.contents d new) in
            let is : get_or s.contents c old ≡ f = sym (get_or-set_other s.contents d c new old there) ∙ get_or_from_slice_get _ c f old now in
            let was : slice_get s.contents c ≡ Some f = slice_get-get_or s.contents c old in_c ∙ ap Some is in
            holds_elsewhere m f s.events c e (off_other d c (device_of e) device there) (k.holds c m f start was)
      ];
      unused = λ c past. calls_elsewhere s.events e c (off_unknown s.fixed (device_of e) c (subst (IsKnown s.fixed) (sym device) known) past) ∙ k.unused c past;
      there = λ place. still_there s.fixed s.events e place (attaches_none_on e place d device) (k.there place);
    }

pub set_itself : {A : Type 0} (xs : List A) (d : ℕ) (x : A) → x ≡ get_or xs d x → set xs d x ≡ xs
set_itself [] d x is = refl
set_itself (y ∷ xs) zero x is = λ i. is i ∷ xs
set_itself (y ∷ xs) (suc d) x is = λ i. y ∷ set_itself xs d x is i

pub set_like : {A : Type 0} (xs : List A) (d : ℕ) (x y : A) → x ≡ get_or xs d x → y ≡ x → set xs d y ≡ xs
set_like xs d x y at same = ap (set xs d) same ∙ set_itself xs d x at

-- the same, where the calls are given by an equation
pub keeps_pushed : (s : State) (e : Event) (L : List Event) → L ≡ s.events ++ e ∷ [] → IsKnown s.fixed (device_of e) → is_change e ≡ false → Keeps s
    → Keeps (record { told = s.told; events = L; fixed = s.fixed; contents = s.contents; counts = s.counts })
keeps_pushed s e L is known calm k = subst (λ (K : List Event). Keeps (record { told = s.told; events = K; fixed = s.fixed; contents = s.contents; counts = s.counts })) (sym is) (keeps_noted s e known calm k)

-- a change of a drive was made and noted, or nothing
pub record Makes (ok : Bool) (e : Event) (before after : List Event) (old new : Files) : Type 0 where
  pub noted : ok ≡ true → after ≡ before ++ e ∷ []
  pub made : ok ≡ true → Becomes e old new
  pub unnoted : ok ≡ false → after ≡ before
  pub unmade : ok ≡ false → new ≡ old

pub makes : {A E : Type 0} (r : Result A E) (e : Event) (before after : List Event) (old new : Files) → OnOk r (after ≡ before ++ e ∷ []) → OnOk r (Becomes e old new) → OnErr r (after ≡ before) → OnErr r (new ≡ old) → Makes (is_ok r) e before after old new
makes (Ok x) e before after old new noted made unnoted unmade = record { noted = λ _. noted; made = λ _. made; unnoted = λ none. absurd (cc none); unmade = λ none. absurd (cc none) }
makes (Err x) e before after old new noted made unnoted unmade = record { noted = λ none. absurd (cc none); made = λ none. absurd (cc none); unnoted = λ _. unnoted; unmade = λ _. unmade }

pub rewrites : {A E : Type 0} (s : State) (d : ℕ) (r : Result A E) (e : Event) (L : List Event) (old new : Files) → Makes (is_ok r) e s.events L old new
    → OnOk r (Rewrites d e s (record { told = s.told; events = L; fixed = s.fixed; contents = set s.contents d new; counts = s.counts }))
rewrites s d (Ok x) e L old new m = record { files = new; is = λ i. record { told = s.told; events = m.noted refl i; fixed = s.fixed; contents = set s.contents d new; counts = s.counts } }
rewrites s d (Err x) e L old new m = tt

pub keeps_made : (s : State) (d : ℕ) (ok : Bool) (e : Event) (L : List Event) (old new : Files) → d < length s.fixed.drives → device_of e ≡ Drive d → old ≡ get_or s.contents d old → Makes ok e s.events L old new → Keeps s
    → Keeps (record { told = s.told; events = L; fixed = s.fixed; contents = set s.contents d new; counts = s.counts })
keeps_made s d true e L old new known device at m k =
    subst (λ (K : List Event). Keeps (record { told = s.told; events = K; fixed = s.fixed; contents = set s.contents d new; counts = s.counts })) (sym (m.noted refl))
    (keeps_rewritten s d e old new known device at (m.made refl) k)
keeps_made s d false e L old new known device at m k =
    subst (λ (K : List Event). Keeps (record { told = s.told; events = K; fixed = s.fixed; contents = set s.contents d new; counts = s.counts })) (sym (m.unnoted refl))
    (subst (λ (C : List Files). Keeps (record { told = s.told; events = s.events; fixed = s.fixed; contents = C; counts = s.counts })) (sym (set_like s.contents d old new at (m.unmade refl))) k)

-- what a drive holds that is attached
pub held_at : (s : State) (d n : ℕ) (f : Files) → length s.fixed.drives ≡ n → d < n → f ≡ get_or s.contents d f → Keeps s → slice_get s.contents d ≡ Some f
held_at s d n f long known at k = slice_get-get_or s.contents d f (let same = k.contents in omega (arith, long, known, same)) ∙ ap Some (sym at)
