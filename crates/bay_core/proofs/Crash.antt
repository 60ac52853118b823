-- What a crash may leave of a drive, after a run of calls that began at rest.
use Rattle.std.proofs.Common.{◌≡◌, ◌⊎◌, inl, inr, ℕ, Bool, true, false, cond, List, [], ◌∷◌, ◌++◌, refl, sym, ◌∙◌, ap, subst, arith}
use Rattle.std.proofs.lemmas.Bool.Decides.{nat_tests}
use Rattle.bay_core.specs.declared.event.Event.{Event}
use Rattle.bay_core.specs.declared.event.Event.TheVariants.{AttachSource, AttachDrive, AttachFailed, SourceList, SourceRead, DriveList, DriveRead, Write, Sync, Rename, Remove, Moment, Pick, Say}
use Rattle.bay_core.specs.Map.{Map}
use Rattle.bay_core.specs.Replay.{Device, Drive, is_on, calls_on, changed, replayed, reads}
use Rattle.bay_core.specs.Torn.{Torn}
use Rattle.bay_core.specs.Left.{LeftAfter, LeftBy, Left, IsSettled}
use Rattle.bay_core.specs.Went.{AllOn, Only, Ran}
use Rattle.bay_core.proofs.Readable.{changed_torn}
use Rattle.bay_core.proofs.Replays.{calls_on-append}

-- one of these calls
abbrev pub IsIn : Event → List Event → Type 0
IsIn e [] = ⊥
IsIn e (f ∷ P) = (e ≡ f) ⊎ IsIn e P

after_more : (e : Event) (R : Map) (S T : Map → Type 0) → ((J : Map) → S J → T J) → (I : Map) → LeftAfter e R S I → LeftAfter e R T I
after_more (Sync d true) R S T so I left = left
after_more (Sync d false) R S T so I left = so I left
after_more (AttachDrive d place) R S T so I (J, s, torn) = (J, so J s, torn)
after_more (AttachSource n place) R S T so I (J, s, torn) = (J, so J s, torn)
after_more (SourceList n got) R S T so I (J, s, torn) = (J, so J s, torn)
after_more (SourceRead n path at want got) R S T so I (J, s, torn) = (J, so J s, torn)
after_more (AttachFailed place) R S T so I (J, s, torn) = (J, so J s, torn)
after_more (DriveList d got) R S T so I (J, s, torn) = (J, so J s, torn)
after_more (DriveRead d path at want got) R S T so I (J, s, torn) = (J, so J s, torn)
after_more (Write d path at bytes ok) R S T so I (J, s, torn) = (J, so J s, torn)
after_more (Rename d from to ok) R S T so I (J, s, torn) = (J, so J s, torn)
after_more (Remove d path ok) R S T so I (J, s, torn) = (J, so J s, torn)
after_more (Moment t) R S T so I (J, s, torn) = (J, so J s, torn)
after_more (Pick n) R S T so I (J, s, torn) = (J, so J s, torn)
after_more (Say line ok) R S T so I (J, s, torn) = (J, so J s, torn)

-- where more may be left before, more may be left after
pub left_more : (L : List Event) (R : Map) (S T : Map → Type 0) → ((J : Map) → S J → T J) → (I : Map) → LeftBy L R S I → LeftBy L R T I
left_more [] R S T so I left = so I left
left_more (e ∷ L) R S T so I left = left_more L (changed R e) (LeftAfter e R S) (LeftAfter e R T) (after_more e R S T so) I left

pub left_split : (A B : List Event) (R : Map) (S : Map → Type 0) (I : Map) → LeftBy (A ++ B) R S I → LeftBy B (replayed R A) (LeftBy A R S) I
left_split [] B R S I left = left
left_split (e ∷ A) B R S I left = left_split A B (changed R e) (LeftAfter e R S) I left

pub left_join : (A B : List Event) (R : Map) (S : Map → Type 0) (I : Map) → LeftBy B (replayed R A) (LeftBy A R S) I → LeftBy (A ++ B) R S I
left_join [] B R S I left = left
left_join (e ∷ A) B R S I left = left_join A B (changed R e) (LeftAfter e R S) I left

-- what may be left follows from what was left before and from the calls since
pub left_any : (m : Map) (L P : List Event) (d : ℕ) (I : Map) → Left m (L ++ P) d I → LeftBy (calls_on d P) (reads m L d) (Left m L d) I
unfolding Left reads
left_any m L P d I left = left_split (calls_on d L) (calls_on d P) m (λ J. J ≡ m) I (subst (λ K. LeftBy K m (λ J. J ≡ m) I) (calls_on-append d L P) left)

-- from a drive at rest: what may be left follows from the calls since
pub left_since : (m : Map) (L P : List Event) (d : ℕ) → IsSettled m L d → (I : Map) → Left m (L ++ P) d I → LeftBy (calls_on d P) (reads m L d) (λ J. J ≡ reads m L d) I
unfolding Left reads
left_since m L P d settled I left =
    left_more (calls_on d P) (reads m L d) (Left m L d) (λ J. J ≡ reads m L d) settled I
    (left_split (calls_on d L) (calls_on d P) m (λ J. J ≡ m) I (subst (λ K. LeftBy K m (λ J. J ≡ m) I) (calls_on-append d L P) left))

here : (d : ℕ) (x : Device) → Only (Drive d) x → is_on d x ≡ true
here d x is = ap (is_on d) is ∙ grind (arith, nat_tests)

pub calls_all : (d : ℕ) (L : List Event) → AllOn (Only (Drive d)) L → calls_on d L ≡ L
unfolding AllOn
calls_all d [] on = refl
calls_all d (e ∷ L) on = ap (λ b. cond b (e ∷ calls_on d L) (calls_on d L)) (here d _ on.0) ∙ ap (λ (l : List Event). e ∷ l) (calls_all d L on.1)

-- a first part of these calls, of which the last may have failed
abbrev pub Goes : List (Bool → Event) → List Event → Type 0
Goes [] P = P ≡ []
Goes (c ∷ cs) P = (P ≡ []) ⊎ (P ≡ c false ∷ []) ⊎ ((rest : List Event) × (P ≡ c true ∷ rest) × Goes cs rest)

no_front : (P rest : List Event) → [] ≡ P ++ rest → P ≡ []
no_front [] rest e = refl
no_front (x ∷ P) rest e = absurd (cc e)

front_of_one : (x : Event) (P rest : List Event) → x ∷ [] ≡ P ++ rest → (P ≡ []) ⊎ (P ≡ x ∷ [])
front_of_one x [] rest e = inl refl
front_of_one x (y ∷ P) rest e =
    let tail : [] ≡ P ++ rest = cc e in
    let head : y ≡ x = cc e in
    inr (λ i. head i ∷ no_front P rest tail i)

pub front_goes : (cs : List (Bool → Event)) (ok : Bool) (L P rest : List Event) → Ran cs ok L → L ≡ P ++ rest → Goes cs P
unfolding Ran
front_goes [] true L P rest ran is = no_front P rest (sym ran ∙ is)
front_goes [] false L P rest ran is = absurd ran
front_goes (c ∷ cs) true L [] rest ran is = inl refl
front_goes (c ∷ cs) true L (y ∷ P) rest (more, e, ran) is =
    let both : c true ∷ more ≡ y ∷ (P ++ rest) = sym e ∙ is in
    let tail : more ≡ P ++ rest = cc both in
    let head : y ≡ c true = cc both in
    inr (inr (P, ap (λ x. x ∷ P) head, front_goes cs true more P rest ran tail))
front_goes (c ∷ cs) false L P rest (inl none) is = inl (no_front P rest (sym none ∙ is))
front_goes (c ∷ cs) false L P rest (inr (inl last)) is = elim (front_of_one (c false) P rest (sym last ∙ is)) [ inl none ↦ inl none | inr one ↦ inr (inl one) ]
front_goes (c ∷ cs) false L [] rest (inr (inr (more, e, ran))) is = inl refl
front_goes (c ∷ cs) false L (y ∷ P) rest (inr (inr (more, e, ran))) is =
    let both : c true ∷ more ≡ y ∷ (P ++ rest) = sym e ∙ is in
    let tail : more ≡ P ++ rest = cc both in
    let head : y ≡ c true = cc both in
    inr (inr (P, ap (λ x. x ∷ P) head, front_goes cs false more P rest ran tail))

-- what each change keeps, each crash keeps
pub left_keeps : (T : Map → Type 0) (P : List Event) (R : Map) (S : Map → Type 0) → ((J : Map) → S J → T J) → T R → ((e : Event) (J K : Map) → IsIn e P → T J → Torn e J K → T K) → (I : Map) → LeftBy P R S I → T I
left_keeps T [] R S so now keeps I left = so I left
left_keeps T (e ∷ P) R S so now keeps I left =
    left_keeps T P (changed R e) (LeftAfter e R S) (λ J l. after e J (λ K M t torn. keeps e K M (inl refl) t torn) l) (keeps e R (changed R e) (inl refl) now (changed_torn e R)) (λ f J K is t torn. keeps f J K (inr is) t torn) I left
  where
    after : (e : Event) (J : Map) → ((K M : Map) → T K → Torn e K M → T M) → LeftAfter e R S J → T J
    after (Sync d true) J k l = subst T (sym l) now
    after (Sync d false) J k l = so J l
    after (AttachDrive d place) J k (K, s, torn) = k K J (so K s) torn
    after (AttachSource n place) J k (K, s, torn) = k K J (so K s) torn
    after (SourceList n got) J k (K, s, torn) = k K J (so K s) torn
    after (SourceRead n path at want got) J k (K, s, torn) = k K J (so K s) torn
    after (AttachFailed place) J k (K, s, torn) = k K J (so K s) torn
    after (DriveList d got) J k (K, s, torn) = k K J (so K s) torn
    after (DriveRead d path at want got) J k (K, s, torn) = k K J (so K s) torn
    after (Write d path at bytes ok) J k (K, s, torn) = k K J (so K s) torn
    after (Rename d from to ok) J k (K, s, torn) = k K J (so K s) torn
    after (Remove d path ok) J k (K, s, torn) = k K J (so K s) torn
    after (Moment t) J k (K, s, torn) = k K J (so K s) torn
    after (Pick n) J k (K, s, torn) = k K J (so K s) torn
    after (Say line ok) J k (K, s, torn) = k K J (so K s) torn
