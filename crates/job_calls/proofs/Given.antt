-- What a run attached has what its place gave, and the numbers follow.
use Rattle.std.proofs.Common.{◌≡◌, inl, inr, ℕ, suc, ◌+◌, Bool, false, cond, List, [], ◌∷◌, ◌++◌, length, refl, sym, ap, ◌∙◌, subst, arith, append_assoc, append-nil}
use Rattle.std.specs.Prelude.{Option, Some, Ok, filter}
use Rattle.std.specs.List.{AllByRecursion}
use Rattle.std.proofs.lemmas.Bool.{false≢true}
use Rattle.std.proofs.lemmas.List.{length-append}
use Rattle.std.proofs.lemmas.List.Elements.{filter-append}
use Rattle.bay_core.specs.declared.event.Event.{Event}
use Rattle.bay_core.specs.declared.event.Event.TheVariants.{AttachSource, AttachDrive}
use Rattle.bay_core.specs.Attach.{SameDrive, SameCard, Gives, CardAttaches}
use Rattle.bay_core.specs.Map.{Map, Dates, AllDated}
use Rattle.bay_core.specs.World.{World, Attached, Steady}
use Rattle.run_calls.proofs.Lists.{split_at}
use Rattle.command_words.specs.Jobs.{Job}
use Rattle.job_story.specs.Attaching.{AttachesDrives}
use Rattle.job_story.specs.Run.{Run, run_with, IsSteady}
use Rattle.job_calls.specs.Calls.{drive_attaches}
use Rattle.job_calls.specs.Places.{is_card_attach, is_drive_attach, Numbers, CardHasItsPlace, DriveHasItsPlace, HoldsItsPlaces}
use Rattle.job_calls.proofs.Attaching.{NoDevice, card_makes, drives_make, DrivesKept, drives_kept, DriveGiven, drives_given}
use Rattle.job_calls.proofs.Follows.{each_at, each_then}
use Rattle.job_calls.proofs.Parts.{Stands, bare, stocked}
use Rattle.job_calls.proofs.Told.{cut}

-- ---- how many

abbrev cards_in : List Event → ℕ
cards_in L = length (filter is_card_attach L)

abbrev drives_in : List Event → ℕ
drives_in L = length (filter is_drive_attach L)

counts_then : (P : Event → Bool) (A B : List Event) → length (filter P (A ++ B)) ≡ length (filter P A) + length (filter P B)
counts_then P A B = ap length (filter-append P A B) ∙ length-append (filter P A) (filter P B)

count_none : (P : Event → Bool) (L : List Event) → AllByRecursion (λ e. P e ≡ false) L → length (filter P L) ≡ 0
count_none P [] none = refl
count_none P (e ∷ L) none = ap (λ (b : Bool). length (cond b (e ∷ filter P L) (filter P L))) none.0 ∙ count_none P L none.1

no_card : (L : List Event) → NoDevice L → AllByRecursion (λ e. is_card_attach e ≡ false) L
no_card [] none = tt
no_card (e ∷ L) none = (none.0.0, no_card L none.1)

no_drive : (L : List Event) → NoDevice L → AllByRecursion (λ e. is_drive_attach e ≡ false) L
no_drive [] none = tt
no_drive (e ∷ L) none = (none.0.1, no_drive L none.1)

drives_no_card : (d : ℕ) (places : List (List ℕ)) → AllByRecursion (λ e. is_card_attach e ≡ false) (drive_attaches d places)
drives_no_card d [] = tt
drives_no_card d (place ∷ places) = (refl, drives_no_card (suc d) places)

drives_count : (d : ℕ) (places : List (List ℕ)) → drives_in (drive_attaches d places) ≡ length places
drives_count d [] = refl
drives_count d (place ∷ places) = ap suc (drives_count (suc d) places)

-- ---- what stands

keeps_card : (s : ℕ) (a b c : Attached) → c ≡ b → SameCard s a b → SameCard s a c
keeps_card s a b c is same = subst (SameCard s a) (sym is) same

keeps_drive : (d : ℕ) (a b c : Attached) → c ≡ b → SameDrive d a b → SameDrive d a c
keeps_drive d a b c is same = subst (SameDrive d a) (sym is) same

module _ (job : Job) (past since : List Event) (old new : World) (was : old.events ≡ Some past) (no_cards : old.attached.sources ≡ 0) (no_drives : old.attached.drives ≡ 0) where
  abbrev run : Run
  run = run_with job old new since

  -- ---- nothing was attached

  bare_numbers : new.attached ≡ old.attached → NoDevice since → Numbers run
  bare_numbers same none =
      let cards : cards_in since ≡ 0 = count_none is_card_attach since (no_card since none) in
      let drives : drives_in since ≡ 0 = count_none is_drive_attach since (no_drive since none) in
      let sources_are : new.attached.sources ≡ old.attached.sources = ap (λ (a : Attached). a.sources) same in
      let drives_are : new.attached.drives ≡ old.attached.drives = ap (λ (a : Attached). a.drives) same in
      record {
        made = ap (λ (a : Attached). a.made) same;
        sources = omega (arith, cards, sources_are);
        drives = omega (arith, drives, drives_are);
      }

  bare_places : new.attached ≡ old.attached → NoDevice since → HoldsItsPlaces run past
  bare_places same none =
      let sources_are : new.attached.sources ≡ old.attached.sources = ap (λ (a : Attached). a.sources) same in
      record {
        card = λ front back s place is. absurd (false≢true (sym (each_at (λ e. is_card_attach e ≡ false) front back (AttachSource s place) (subst (AllByRecursion (λ e. is_card_attach e ≡ false)) is (no_card since none)))));
        drive = λ front back d place is. absurd (false≢true (sym (each_at (λ e. is_drive_attach e ≡ false) front back (AttachDrive d place) (subst (AllByRecursion (λ e. is_drive_attach e ≡ false)) is (no_drive since none)))));
        dated = λ card dates steady. let there = steady.there in absurd (omega (arith, there, sources_are, no_cards));
      }

  -- ---- the card and drives were attached

  module _ (places : List (List ℕ)) (mid late : World) (rest : List Event) (a : CardAttaches job.card (Ok 0) old mid) (drives : AttachesDrives 0 places mid late)
      (now : late.events ≡ Some (past ++ (AttachSource 0 job.card ∷ drive_attaches 0 places))) (same : new.attached ≡ late.attached) (is : since ≡ (AttachSource 0 job.card ∷ drive_attaches 0 places) ++ rest) (none : NoDevice rest) where
    no_drive_yet : mid.attached.drives ≡ 0
    no_drive_yet = a.numbered.3 ∙ no_drives

    kept : DrivesKept 0 (length places) mid.attached late.attached
    kept = drives_kept places 0 mid late no_drive_yet drives

    -- the card is as it was attached
    card_same : SameCard 0 mid.attached new.attached
    card_same = keeps_card 0 mid.attached late.attached new.attached same (kept.cards 0)

    stocked_numbers : Numbers run
    stocked_numbers =
        let cards_first : cards_in (drive_attaches 0 places) ≡ 0 = count_none is_card_attach (drive_attaches 0 places) (drives_no_card 0 places) in
        let cards_rest : cards_in rest ≡ 0 = count_none is_card_attach rest (no_card rest none) in
        let cards : cards_in since ≡ suc (cards_in (drive_attaches 0 places) + cards_in rest) = ap cards_in is ∙ ap suc (counts_then is_card_attach (drive_attaches 0 places) rest) in
        let sources_one : mid.attached.sources ≡ old.attached.sources + 1 = a.numbered.1 in
        let sources_two : new.attached.sources ≡ mid.attached.sources = ap (λ (b : Attached). b.sources) same ∙ kept.sources in
        let drives_first : drives_in (drive_attaches 0 places) ≡ length places = drives_count 0 places in
        let drives_rest : drives_in rest ≡ 0 = count_none is_drive_attach rest (no_drive rest none) in
        let drives_all : drives_in since ≡ drives_in (drive_attaches 0 places) + drives_in rest = ap drives_in is ∙ counts_then is_drive_attach (drive_attaches 0 places) rest in
        let drives_now : new.attached.drives ≡ 0 + length places = ap (λ (b : Attached). b.drives) same ∙ kept.drives in
        record {
          made = ap (λ (b : Attached). b.made) same ∙ kept.made ∙ a.numbered.5;
          sources = omega (arith, cards_first, cards_rest, cards, sources_one, sources_two);
          drives = omega (arith, drives_first, drives_rest, drives_all, drives_now, no_drives);
        }

    -- ---- what the card was given

    first_card : CardHasItsPlace run past [] 0 job.card
    first_card = record {
      then_attached = old.attached;
      was = record {
        made = refl;
        sources = omega arith;
        drives = omega arith;
        cards = λ s low. absurd (omega (arith, low, no_cards));
        each_drive = λ d low. absurd (omega (arith, low, no_drives));
      };
      gives =
          subst (λ (l : List Event). Gives job.card (new.attached.card 0) (new.attached.card_dates 0) old.attached l) (sym (append-nil past))
          (subst (λ (m : Option Map). Gives job.card m (new.attached.card_dates 0) old.attached past) (sym card_same.card)
          (subst (λ (t : Dates). Gives job.card (mid.attached.card 0) t old.attached past) (sym card_same.dates) (a.gives past was)));
      truth = λ made told honest. card_same.steady ∙ a.truth made told honest;
    }

    no_card_behind : AllByRecursion (λ e. is_card_attach e ≡ false) (drive_attaches 0 places ++ rest)
    no_card_behind = each_then (λ e. is_card_attach e ≡ false) (drive_attaches 0 places) rest (drives_no_card 0 places) (no_card rest none)

    card_place : (front back : List Event) (s : ℕ) (place : List ℕ) → (AttachSource 0 job.card ∷ drive_attaches 0 places) ++ rest ≡ front ++ AttachSource s place ∷ back → CardHasItsPlace run past front s place
    card_place [] back s place at =
        let head : AttachSource 0 job.card ≡ AttachSource s place = cc at in
        let number : 0 ≡ s = cc head in
        let folder : job.card ≡ place = cc head in
        subst (λ (n : ℕ). CardHasItsPlace run past [] n place) number (subst (CardHasItsPlace run past [] 0) folder first_card)
    card_place (x ∷ front) back s place at =
        let behind : drive_attaches 0 places ++ rest ≡ front ++ AttachSource s place ∷ back = cc at in
        absurd (false≢true (sym (each_at (λ e. is_card_attach e ≡ false) front back (AttachSource s place) (subst (AllByRecursion (λ e. is_card_attach e ≡ false)) behind no_card_behind))))

    -- ---- what each drive was given

    mid_now : mid.events ≡ Some (past ++ AttachSource 0 job.card ∷ [])
    mid_now =
        let c = cut (card_makes job.card old mid a) (drives_make places 0 mid late drives) past (AttachSource 0 job.card ∷ drive_attaches 0 places) was now in
        c.at ∙ ap (λ (l : List Event). Some (past ++ l)) c.here

    module _ (front : List Event) (d : ℕ) (place : List ℕ) (g : DriveGiven mid.attached late.attached front ((past ++ AttachSource 0 job.card ∷ []) ++ front) d place) where
      given_place : DriveHasItsPlace run past (AttachSource 0 job.card ∷ front) d place
      given_place =
          let sources_one = a.numbered.1 in
          let sources_two = g.sources in
          let drives_one = a.numbered.3 in
          let drives_two = g.drives in
          record {
            then_attached = g.then_attached;
            was = record {
              made = g.made ∙ a.numbered.5;
              sources = omega (arith, sources_one, sources_two);
              drives = omega (arith, drives_one, drives_two);
              cards = λ s low. keeps_card s g.then_attached late.attached new.attached same (g.cards s);
              each_drive = λ e low. keeps_drive e g.then_attached late.attached new.attached same (g.each_drive e low);
            };
            gives =
                subst (λ (b : Attached). Gives place (b.start d) (b.dates d) g.then_attached (past ++ (AttachSource 0 job.card ∷ front))) (sym same)
                (subst (λ (l : List Event). Gives place (late.attached.start d) (late.attached.dates d) g.then_attached l) (append_assoc past (AttachSource 0 job.card ∷ []) front) g.gives);
            truth = λ made told honest. ap (λ (b : Attached). b.honest d) same ∙ g.truth made told honest;
          }

    drive_place : (front back : List Event) (d : ℕ) (place : List ℕ) → (AttachSource 0 job.card ∷ drive_attaches 0 places) ++ rest ≡ front ++ AttachDrive d place ∷ back → DriveHasItsPlace run past front d place
    drive_place [] back d place at = let head : AttachSource 0 job.card ≡ AttachDrive d place = cc at in absurd (cc head)
    drive_place (x ∷ front) back d place at =
        let head : AttachSource 0 job.card ≡ x = cc at in
        let behind : drive_attaches 0 places ++ rest ≡ front ++ AttachDrive d place ∷ back = cc at in
        subst (λ (y : Event). DriveHasItsPlace run past (y ∷ front) d place) head
        (elim (split_at (drive_attaches 0 places) rest front back (AttachDrive d place) behind) [
          | inl found ↦
              given_place front d place
              (drives_given places 0 mid late no_drive_yet drives (past ++ AttachSource 0 job.card ∷ []) (past ++ (AttachSource 0 job.card ∷ drive_attaches 0 places)) mid_now now front found.0 d place found.1)
          | inr found ↦
              absurd (false≢true (sym (each_at (λ e. is_drive_attach e ≡ false) found.0 back (AttachDrive d place) (subst (AllByRecursion (λ e. is_drive_attach e ≡ false)) found.2 (no_drive rest none)))))
        ])

    -- a date is known of each file of a steady card
    dated : (card : Map) (dates : Dates) → IsSteady run card dates → AllDated card dates
    dated card dates steady =
        let then_steady : Steady mid 0 card = record { steady = sym card_same.steady ∙ steady.steady; card = sym card_same.card ∙ steady.has } in
        subst (AllDated card) (sym card_same.dates ∙ steady.dated) (a.dated card then_steady)

    stocked_places : HoldsItsPlaces run past
    stocked_places = record {
      card = λ front back s place at. card_place front back s place (sym is ∙ at);
      drive = λ front back d place at. drive_place front back d place (sym is ∙ at);
      dated = dated;
    }

  -- ---- each of both

  pub numbers_of : Stands job past since old new → Numbers run
  numbers_of (bare same none) = bare_numbers same none
  numbers_of (stocked places mid late rest a drives now same is none) = stocked_numbers places mid late rest a drives now same is none

  pub places_of : Stands job past since old new → HoldsItsPlaces run past
  places_of (bare same none) = bare_places same none
  places_of (stocked places mid late rest a drives now same is none) = stocked_places places mid late rest a drives now same is none
