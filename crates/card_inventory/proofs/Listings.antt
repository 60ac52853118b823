-- A listing read file by file, and built.
use Rattle.std.proofs.Common.{◌≡◌, ℕ, ◌+◌, ◌<◌, List, [], ◌∷◌, ◌++◌, length, map, take, drop, get_or, refl, sym, ◌∙◌, ap, subst, arith}
use Rattle.std.specs.Prelude.{Result, Ok, Err, IfErr, IsErrAnd}
use Rattle.std.specs.List.{All}
use Rattle.std.proofs.lemmas.List.{map-append, length-map}
use Rattle.std.proofs.lemmas.List.Elements.{All-nil, All-push}
use Rattle.std.proofs.lemmas.List.Sorted.{length_permutation}
use Rattle.bay_core.specs.declared.event.FileInfo.{FileInfo}
use Rattle.copy_plan.specs.declared.file.PlannedFile.{PlannedFile}
use Rattle.copy_plan.specs.declared.inventory.BuildError.{BuildError}
use Rattle.copy_plan.specs.declared.inventory.BuildError.TheVariants.{Empty, TooManyFiles as ManyFiles, TooManyBytes as ManyBytes, Control as OwnPath, TooBig as BigFile, Clash as TwoPaths}
use Rattle.copy_plan.specs.Inventory.{IsInventory}
use Rattle.copy_plan.specs.Build.{IsArranged, BuildGives}
use Rattle.copy_plan.proofs.Arranged.{parts_at}
use Rattle.card_inventory.specs.declared.error.InventoryError.{InventoryError}
use Rattle.card_inventory.specs.declared.error.InventoryError.TheVariants.{SourceFailed, EmptyCard, TooManyFiles, BadPath, BadDate, TooManyBytes, Control, TooBig, Clash, Memory}
use Rattle.card_inventory.specs.Listed.{planned, IsGood, IsFew, IsFault, IsFirstFault, BuildRefuses, FileFails, FilesFail, ListingGives, refusal_by}

-- these files were read, each of them good
pub record AreRead (done : List FileInfo) (plan : List PlannedFile) : Type 0 where
  pub same : plan ≡ map planned done
  pub good : All IsGood done

pub none_read : AreRead [] []
none_read = record { same = refl; good = All-nil IsGood }

pub one_read : (done : List FileInfo) (plan more : List PlannedFile) (f : FileInfo) (p : PlannedFile) → AreRead done plan → p ≡ planned f → IsGood f → more ≡ plan ++ p ∷ [] → AreRead (done ++ f ∷ []) more
one_read done plan more f p are is good push = record {
  same =
      push ∙ ap (λ (l : List PlannedFile). l ++ p ∷ []) are.same ∙ ap (λ (q : PlannedFile). map planned done ++ q ∷ []) is
      ∙ sym (map-append planned done (f ∷ []));
  good = All-push IsGood done f are.good good;
}

-- the first file that is not good, behind those that were read
first_fault : (done listed : List FileInfo) (f : FileInfo) (e : InventoryError) → done ≡ take (length done) listed → length done < length listed → f ≡ get_or listed (length done) f → All IsGood done → IsFault (length done) f e → IsFirstFault listed e
first_fault done listed f e so_far more here good fault = record {
  before = done;
  file = f;
  after = drop (length done + 1) listed;
  is = parts_at listed (length done) f more here ∙ ap (λ (l : List FileInfo). l ++ f ∷ drop (length done + 1) listed) (sym so_far);
  good = good;
  fault = fault;
}

pub files_fail : (done listed : List FileInfo) (plan : List PlannedFile) (f : FileInfo) (index : ℕ) (e : InventoryError) → AreRead done plan → index ≡ length plan → done ≡ take (length done) listed → length done < length listed → f ≡ get_or listed (length done) f → FileFails index f e → FilesFail listed e
files_fail done listed plan f index e are place so_far more here = fails e
  where
    at : index ≡ length done
    at = place ∙ ap length are.same ∙ simp (length-map)

    so : (e : InventoryError) → IsFault index f e → IsFirstFault listed e
    so e fault = first_fault done listed f e so_far more here are.good (subst (λ (n : ℕ). IsFault n f e) at fault)

    fails : (e : InventoryError) → FileFails index f e → FilesFail listed e
    fails SourceFailed fault = so _ fault
    fails EmptyCard fault = so _ fault
    fails (TooManyFiles count) fault = so _ fault
    fails (BadPath index' cause) fault = so _ fault
    fails (BadDate path) fault = so _ fault
    fails (TooManyBytes sum) fault = so _ fault
    fails (Control path) fault = so _ fault
    fails (TooBig path) fault = so _ fault
    fails (Clash first second) fault = so _ fault
    fails Memory fault = tt

-- an error that is handed on
pub handed_on : {A E : Type 0} (P : E → Type 0) (r : Result A E) (e : E) → IsErrAnd r (λ x. x ≡ e) → P e → IfErr r P
handed_on {A} {E} P (Ok v) e is so = tt
handed_on {A} {E} P (Err x) e is so = subst P (sym is) so

-- what building gave from files of a listing that are good
pub record IsBuilt (listed : List FileInfo) (r : Result (List PlannedFile) BuildError) : Type 0 where
  pub good : All IsGood listed
  pub arranged : List PlannedFile
  pub order : IsArranged (map planned listed) arranged
  pub gives : BuildGives arranged r

pub is_built : (listed : List FileInfo) (plan : List PlannedFile) (r : Result (List PlannedFile) BuildError) → plan ≡ map planned listed → All IsGood listed → (arranged : List PlannedFile) × IsArranged plan arranged × BuildGives arranged r → IsBuilt listed r
is_built listed plan r same good (arranged, order, gives) = record {
  good = good;
  arranged = arranged;
  order = subst (λ (l : List PlannedFile). IsArranged l arranged) same order;
  gives = gives;
}

pub built_files : (listed : List FileInfo) (files : List PlannedFile) → IsBuilt listed (Ok files) → ListingGives listed (Ok files)
built_files listed files built = record {
  arranged = subst (λ (l : List PlannedFile). IsArranged (map planned listed) l) (sym built.gives.0) built.order;
  whole = subst IsInventory (sym built.gives.0) built.gives.1;
}

-- nothing is put in order only where nothing was listed
none_listed : (listed : List FileInfo) (arranged : List PlannedFile) → IsArranged (map planned listed) arranged → arranged ≡ [] → listed ≡ []
none_listed [] arranged order empty = refl
none_listed (f ∷ listed) arranged order empty =
    let long = length_permutation (map planned (f ∷ listed)) arranged order.same in
    let none = ap length empty in
    absurd (omega (arith, long, none))

arranged_count : (listed : List FileInfo) (arranged : List PlannedFile) → IsArranged (map planned listed) arranged → length arranged ≡ length listed
arranged_count listed arranged order = length_permutation (map planned listed) arranged order.same ∙ simp (length-map)

not_built : (listed : List FileInfo) (e : BuildError) → IsBuilt listed (Err e) → BuildRefuses listed e
not_built listed e built = record { good = built.good; arranged = built.arranged; order = built.order; refused = built.gives }

built_refusal : (listed : List FileInfo) (e : BuildError) → IsBuilt listed (Err e) → ListingGives listed (Err (refusal_by e))
built_refusal listed Empty built = none_listed listed built.arranged built.order built.gives
built_refusal listed (ManyFiles count) built = (built.gives.0 ∙ arranged_count listed built.arranged built.order, built.gives.1)
built_refusal listed (ManyBytes sum) built = not_built listed _ built
built_refusal listed (OwnPath path) built = not_built listed _ built
built_refusal listed (BigFile path) built = not_built listed _ built
built_refusal listed (TwoPaths first second) built = not_built listed _ built

pub built_not : (listed : List FileInfo) (e : BuildError) (r : Result (List PlannedFile) InventoryError) → IsBuilt listed (Err e) → IsErrAnd r (λ f. f ≡ refusal_by e) → ListingGives listed r
built_not listed e (Ok files) built is = absurd is
built_not listed e (Err f) built is = subst (λ (x : InventoryError). ListingGives listed (Err x)) (sym is) (built_refusal listed e built)

-- what reading the files answers where one is not good, or memory is wanting
pub files_refused : (listed : List FileInfo) (e : InventoryError) → IsFew listed → FilesFail listed e → ListingGives listed (Err e)
files_refused listed SourceFailed few fault = absurd fault.fault
files_refused listed EmptyCard few fault = absurd fault.fault
files_refused listed (TooManyFiles count) few fault = absurd fault.fault
files_refused listed (BadPath index cause) few fault = (few, fault)
files_refused listed (BadDate path) few fault = (few, fault)
files_refused listed (TooManyBytes sum) few fault = absurd fault.fault
files_refused listed (Control path) few fault = absurd fault.fault
files_refused listed (TooBig path) few fault = absurd fault.fault
files_refused listed (Clash first second) few fault = absurd fault.fault
files_refused listed Memory few fault = tt
