-- The folders of a job, attached one after another.
use Rattle.std.proofs.Common.{◌≡◌, ℕ, zero, suc, ◌+◌, ◌<◌, true, false, List, [], ◌∷◌, length, take, drop, slice_get, slice_index_or, Some, Result, Ok, Err, is_err, refl, sym, ◌∙◌, subst, arith, get_or-drop, take_all}
use Rattle.std.proofs.lemmas.List.{length-drop}
use Rattle.std.proofs.lemmas.Option.{slice_get_read}
use Rattle.bay_core.specs.declared.failed.Failed.{Failed as DeviceFailed}
use Rattle.bay_core.specs.Attach.{Attaches, CardAttaches}
use Rattle.bay_core.specs.World.{World}
use Rattle.command_words.specs.Jobs.{Job}
use Rattle.job_story.specs.Attaching.{AttachesDrives, AttachesAll}
use Rattle.job_run.specs.Asked.{HasNone}
use Rattle.job_run.specs.Attached.{HasPlaces}

-- ---- the card

-- it is card 0, and no drive is attached
pub card_number : (place : List ℕ) (s : ℕ) (old new : World) → HasNone old.attached → CardAttaches place (Ok s) old new → (s ≡ 0) × (new.attached.drives ≡ 0)
card_number place s old new none a = (a.numbered.0 ∙ none.sources, a.numbered.3 ∙ none.drives)

-- it is that of the job
pub card_of_job : (words : List (List ℕ)) (job : Job) (place : List ℕ) (result : Result ℕ DeviceFailed) (old new : World) → HasPlaces words job → ((x : List ℕ) → place ≡ slice_index_or words 4 x)
    → CardAttaches place result old new → CardAttaches job.card result old new
card_of_job words job place result old new has is a = subst (λ (q : List ℕ). CardAttaches q result old new) (is [] ∙ has.card) a

pub first_card : (words : List (List ℕ)) (job : Job) (place : List ℕ) (s : ℕ) (old new : World) → HasPlaces words job → HasNone old.attached → ((x : List ℕ) → place ≡ slice_index_or words 4 x)
    → CardAttaches place (Ok s) old new → CardAttaches job.card (Ok 0) old new
first_card words job place s old new has none is a =
    let n = card_number place s old new none a in
    card_of_job words job place (Ok 0) old new has is (subst (λ (k : ℕ). CardAttaches place (Ok k) old new) n.0 a)

-- ---- the drives

-- the folder of drive d stands behind the first ones
pub place_at : (words : List (List ℕ)) (first n d : ℕ) (place : List ℕ) → length words ≡ first + n → d < n → ((x : List ℕ) → place ≡ slice_index_or words (first + d) x)
    → slice_get (drop first words) d ≡ Some place
place_at words first n d place count within is =
    slice_get_read (drop first words) n d place (omega (arith, length-drop first words)) within (is place ∙ sym (get_or-drop first words d place))

pub attaches_none : (d : ℕ) (w : World) → AttachesDrives d [] w w
unfolding AttachesDrives
attaches_none d w = refl

-- one drive more, behind the first k
pub attaches_more : (d : ℕ) (places : List (List ℕ)) (k : ℕ) (place : List ℕ) (old mid new : World) → slice_get places k ≡ Some place → AttachesDrives d (take k places) old mid
    → Attaches place (Ok (d + k)) mid new → AttachesDrives d (take (suc k) places) old new
unfolding AttachesDrives
attaches_more d [] k place old mid new there before one = absurd (cc there)
attaches_more d (p ∷ places) zero place old mid new there before one =
    let e : Attaches p (Ok (d + 0)) mid new = subst (λ (q : List ℕ). Attaches q (Ok (d + 0)) mid new) (cc there) one in
    (new, subst (λ (w : World). Attaches p (Ok d) w new) before (subst (λ (n : ℕ). Attaches p (Ok n) mid new) (omega arith) e), refl)
attaches_more d (p ∷ places) (suc k) place old mid new there (first, one_first, before) one =
    (first, one_first, attaches_more (suc d) places k place first mid new there before (subst (λ (n : ℕ). Attaches place (Ok n) mid new) (omega arith) one))

-- an attach that failed, or did not
pub failed_by : (place : List ℕ) (result : Result ℕ DeviceFailed) (old new : World) → is_err result ≡ true → Attaches place result old new → (e : DeviceFailed) × Attaches place (Err e) old new
failed_by place (Ok d) old new failed a = absurd (cc failed)
failed_by place (Err e) old new failed a = (e, a)

pub given_by : (place : List ℕ) (result : Result ℕ DeviceFailed) (old new : World) → is_err result ≡ false → Attaches place result old new
    → Attaches place (Ok old.attached.drives) old new × (new.attached.drives ≡ old.attached.drives + 1)
given_by place (Ok d) old new failed a = (subst (λ (n : ℕ). Attaches place (Ok n) old new) a.numbered.0 a, a.numbered.1)
given_by place (Err e) old new failed a = absurd (cc failed)

-- all of them
pub attaches_all : (job : Job) (n : ℕ) (words : List (List ℕ)) (old mid new : World) → HasPlaces words job → length words ≡ 5 + n → CardAttaches job.card (Ok 0) old mid
    → AttachesDrives 0 (take n (drop 5 words)) mid new → AttachesAll job old new
attaches_all job n words old mid new has count card drives = record {
  mid = mid;
  card = card;
  drives = subst (λ (places : List (List ℕ)). AttachesDrives 0 places mid new) (take_all n (drop 5 words) (omega (arith, length-drop 5 words)) ∙ has.drives) drives;
}
