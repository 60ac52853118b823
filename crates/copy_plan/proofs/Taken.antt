-- The files of a plan, taken one by one.
use Rattle.std.proofs.Common.{◌≡◌, ℕ, suc, ◌+◌, ◌-◌, ◌≤◌, ◌<◌, Bool, true, false, List, [], ◌∷◌, ◌++◌, length, refl, ◌^◌, sym, ◌∙◌, ap, subst, arith, append_assoc, append-nil, length-append}
use Rattle.std.specs.Bool.{Decides}
use Rattle.std.specs.List.{AllByRecursion, flat_map}
use Rattle.copy_plan.specs.declared.file.PlannedFile.{PlannedFile}
use Rattle.copy_plan.specs.declared.fields.FieldError.{FieldError}
use Rattle.copy_plan.specs.declared.fields.FieldError.TheVariants.{Broken, Memory as Wanting}
use Rattle.copy_plan.specs.declared.decoding.PlanError.{PlanError}
use Rattle.copy_plan.specs.Inventory.{Precedes, path_bytes}
use Rattle.copy_plan.specs.Fields.{Begins, BeginsNone, Fails, IsFile, MayFollow, FilesFault, FaultFrom, file_code}
use Rattle.copy_plan.specs.Decoding.{StandsAlone, FilesTaken, Faults, Behind, wrong}
use Rattle.copy_plan.proofs.Exact.{file_alone_exact, plannable_file}
use Rattle.copy_plan.proofs.Taking.{other_of}
use Rattle.copy_plan.proofs.Leads.{Leads, leads_start, leads_on, leads_here}
use Rattle.copy_plan.proofs.Files.{path_bytes-append, path_bytes-one, keeps_none, keeps_push}
use Rattle.copy_plan.proofs.Heads.{faults_at}

may_file : (list : List ℕ) (before : List PlannedFile) (f : PlannedFile) → MayFollow list before f → IsFile f
may_file list before f may = plannable_file f may.alone

may_alone : (list : List ℕ) (before : List PlannedFile) (total : ℕ) (f : PlannedFile) → total ≡ path_bytes before → MayFollow list before f → StandsAlone list total f
may_alone list before total f is may = let short = may.short in record { own = may.alone.own; small = may.alone.small; short = omega (arith, is); clear = may.clear }

not_both : (b : Bool) → b ≡ true → b ≡ false → ⊥
not_both b is fails = absurd (cc)

pub taken_other_alone : (list : List ℕ) (before : List PlannedFile) (total : ℕ) (bytes : List ℕ) (f : PlannedFile) (rest : List ℕ) (stands : Bool) → total ≡ path_bytes before → Begins IsFile file_code bytes f rest → Decides stands (StandsAlone list total f) → stands ≡ false → BeginsNone (MayFollow list before) file_code bytes
taken_other_alone list before total bytes f rest stands is begins decides fails =
    other_of file_alone_exact bytes f rest (may_file list before) begins (λ may. not_both stands (decides.1 (may_alone list before total f is may)) fails)

pub taken_other_behind : (list : List ℕ) (before : List PlannedFile) (bytes : List ℕ) (f : PlannedFile) (rest : List ℕ) (stands : Bool) → Begins IsFile file_code bytes f rest → Decides stands (AllByRecursion (λ g. Precedes g f) before) → stands ≡ false → BeginsNone (MayFollow list before) file_code bytes
taken_other_behind list before bytes f rest stands begins decides fails =
    other_of file_alone_exact bytes f rest (may_file list before) begins (λ may. not_both stands (decides.1 may.behind) fails)

-- the files taken so far, of so many in all
pub record SoFar (list : List ℕ) (count : ℕ) (bytes : List ℕ) (files : List PlannedFile) (total done : ℕ) (rest : List ℕ) : Type 0 where
  pub taken : FilesTaken list done bytes files rest
  pub total_is : total ≡ path_bytes files
  pub leads : Leads (FilesFault list [] count) (FilesFault list files (count - done)) bytes rest

pub none_taken : (list : List ℕ) (count : ℕ) (bytes : List ℕ) → SoFar list count bytes [] 0 0 bytes
unfolding path_bytes
none_taken list count bytes = record {
  taken = record { counted = refl; kept = keeps_none list; is = refl };
  total_is = refl;
  leads = let e : count ≡ count - 0 = omega arith in subst (λ (n : ℕ). Leads (FilesFault list [] count) (FilesFault list [] n) bytes bytes) e (leads_start (FilesFault list [] count) bytes);
}

-- files that are still to come begin with one
pub to_next : (list : List ℕ) (count done : ℕ) (bytes : List ℕ) (files : List PlannedFile) (rest : List ℕ) → done < count → Leads (FilesFault list [] count) (FilesFault list files (count - done)) bytes rest
    → Leads (FilesFault list [] count) (FaultFrom (MayFollow list files) file_code (λ f. FilesFault list (files ++ f ∷ []) (count - (done + 1)))) bytes rest
unfolding FilesFault
to_next list count done bytes files rest more leads =
    let e : count - done ≡ suc (count - (done + 1)) = omega arith in
    subst (λ (n : ℕ). Leads (FilesFault list [] count) (FilesFault list files n) bytes rest) e leads

flat_push : (files : List PlannedFile) (f : PlannedFile) (rest : List ℕ) → flat_map file_code (files ++ f ∷ []) ++ rest ≡ flat_map file_code files ++ (file_code f ++ rest)
flat_push [] f rest = ap (λ (l : List ℕ). l ++ rest) (append-nil (file_code f))
flat_push (g ∷ files) f rest =
    append_assoc (file_code g) (flat_map file_code (files ++ f ∷ [])) rest ∙ ap (λ (l : List ℕ). file_code g ++ l) (flat_push files f rest) ∙ sym (append_assoc (file_code g) (flat_map file_code files) (file_code f ++ rest))

pub one_more : (list : List ℕ) (count done total : ℕ) (bytes : List ℕ) (files : List PlannedFile) (rest : List ℕ) (f : PlannedFile) (after : List ℕ) → done < count → SoFar list count bytes files total done rest → Begins (MayFollow list files) file_code rest f after
    → SoFar list count bytes (files ++ f ∷ []) (total + length f.path) (done + 1) after
one_more list count done total bytes files rest f after more so begins = record {
  taken = record {
    counted = omega (arith, so.taken.counted, length-append files (f ∷ []));
    kept = keeps_push list files f so.taken.kept begins.kept;
    is = so.taken.is ∙ ap (λ (l : List ℕ). flat_map file_code files ++ l) begins.is ∙ sym (flat_push files f after);
  };
  total_is = omega (arith, so.total_is, path_bytes-append files (f ∷ []), path_bytes-one f);
  leads = leads_on (to_next list count done bytes files rest more so.leads) begins;
}

pub so_short : (list : List ℕ) (count done total : ℕ) (bytes : List ℕ) (files : List PlannedFile) (rest : List ℕ) → SoFar list count bytes files total done rest → (total ≤ 2 ^ 32) × (length rest ≤ length bytes)
so_short list count done total bytes files rest so = let short = so.taken.kept.short in let is = so.total_is in (omega arith, let gap = so.leads.is in omega (arith, gap))

-- a file could not be taken
pub files_failed : (list : List ℕ) (count done total : ℕ) (whole bytes : List ℕ) (files : List PlannedFile) (rest : List ℕ) (error : FieldError) (e : PlanError) → length bytes ≤ length whole → done < count → SoFar list count bytes files total done rest → Fails (MayFollow list files) file_code rest error
    → e ≡ wrong error (length whole - length rest) → Faults (Behind whole bytes (FilesFault list [] count)) e
files_failed list count done total whole bytes files rest Wanting e short more so fails at = subst (Faults (Behind whole bytes (FilesFault list [] count))) (sym at) tt
files_failed list count done total whole bytes files rest Broken e short more so fails at =
    let within = so_short list count done total bytes files rest so in
    faults_at _ e _ at (record { later = length bytes - length rest; at_is = omega (arith, within.1); fault = leads_here (to_next list count done bytes files rest more so.leads) fails (length bytes - length rest) refl })
