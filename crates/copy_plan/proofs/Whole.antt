-- A plan from its parts, and the faults behind them.
use Rattle.std.proofs.Common.{◌≡◌, ℕ, ◌+◌, ◌-◌, Bool, true, false, cond, List, [], ◌++◌, length, refl, sym, ◌∙◌, ap, subst, arith, append_assoc, length-append}
use Rattle.std.specs.Prelude.{Option}
use Rattle.std.specs.List.{flat_map}
use Rattle.path_text.specs.declared.kinds.Kinds.{Kinds}
use Rattle.path_text.specs.ListName.{list_name_text}
use Rattle.copy_plan.specs.declared.file.PlannedFile.{PlannedFile}
use Rattle.copy_plan.specs.declared.decoding.PlanError.{PlanError}
use Rattle.copy_plan.specs.declared.decoding.PlanError.TheVariants.{NotAPlan, Memory}
use Rattle.copy_plan.specs.declared.decoding.Head.{Head}
use Rattle.copy_plan.specs.Plan.{PlanValue, IsPlan}
use Rattle.copy_plan.specs.Fields.{Begins, FaultFrom, mark_code, moment_code, label_code, kinds_code, source_code, choice_code, count_code, file_code, plan_code, is_plain, IsChoice, IsCount, NameFault, UserFault, HostFault, ChoiceFault, CountFault, PlanFault}
use Rattle.copy_plan.specs.Decoding.{Faults, Behind, HeadStands, ChoiceStands, FilesTaken, PlanStands, IsNoPlan}
use Rattle.copy_plan.proofs.Leads.{Leads, leads_on}
use Rattle.copy_plan.proofs.Heads.{to_start}
use Rattle.copy_plan.proofs.Files.{keeps_inventory}
use Rattle.copy_plan.proofs.Plans.{choice_kept, code_no_fault, one_plan}

-- what goes wrong behind the head goes wrong in the whole
pub head_leads : (bytes : List ℕ) (head : Head) (rest : List ℕ) → HeadStands bytes head rest → Leads PlanFault (ChoiceFault head.plain (list_name_text head.name head.started)) bytes rest
head_leads bytes head rest stands =
    let host = label_code head.host ++ rest in
    let user = label_code head.user ++ host in
    let name = label_code head.name ++ user in
    let start = moment_code head.started ++ name in
    let one = to_start bytes start head.plain (record { kept = tt; is = stands.is }) in
    let two : Leads PlanFault (NameFault head.plain head.started) bytes name = leads_on one (record { kept = stands.started; is = refl }) in
    let three : Leads PlanFault (UserFault head.plain head.started head.name) bytes user = leads_on two (record { kept = stands.name; is = refl }) in
    let four : Leads PlanFault (HostFault head.plain head.started head.name) bytes host = leads_on three (record { kept = stands.user; is = refl }) in
    leads_on four (record { kept = stands.host; is = refl })

-- and what goes wrong behind the choice
pub choice_leads : (plain : Bool) (list bytes rest more : List ℕ) (kinds : Kinds) (source : Option (List ℕ)) → Leads PlanFault (ChoiceFault plain list) bytes rest → ChoiceStands plain rest kinds source more → Leads PlanFault (CountFault list) bytes more
unfolding ChoiceFault
choice_leads true list bytes rest more kinds source leads stands =
    let none : choice_code kinds source ≡ [] = ap (λ (b : Bool). cond b [] (kinds_code kinds ++ source_code source)) stands.mark in
    let same : rest ≡ more = stands.is ∙ ap (λ (l : List ℕ). l ++ more) none in
    subst (λ (r : List ℕ). Leads PlanFault (CountFault list) bytes r) same leads
choice_leads false list bytes rest more kinds source leads stands =
    let some : choice_code kinds source ≡ kinds_code kinds ++ source_code source = ap (λ (b : Bool). cond b [] (kinds_code kinds ++ source_code source)) stands.mark in
    let is : rest ≡ kinds_code kinds ++ (source_code source ++ more) = stands.is ∙ ap (λ (l : List ℕ). l ++ more) some ∙ append_assoc (kinds_code kinds) (source_code source) more in
    let one : Leads PlanFault (FaultFrom (IsChoice kinds) source_code (λ source. CountFault list)) bytes (source_code source ++ more) = leads_on leads (record { kept = stands.chosen; is = is }) in
    leads_on one (record { kept = choice_kept kinds source stands.source_list stands.mark; is = refl })

behind_at : (next : List ℕ → ℕ → Type 0) (bytes rest : List ℕ) → Leads PlanFault next bytes rest → (at : ℕ) → Behind bytes rest next at → PlanFault bytes at
behind_at next bytes rest leads at behind =
    let e : leads.gap + behind.later ≡ at = omega (arith, leads.is, behind.at_is) in
    subst (PlanFault bytes) e (leads.on behind.later behind.fault)

-- a fault behind what stands is one of the whole
pub behind_faults : (next : List ℕ → ℕ → Type 0) (bytes rest : List ℕ) (e : PlanError) → Leads PlanFault next bytes rest → Faults (Behind bytes rest next) e → Faults (PlanFault bytes) e
behind_faults next bytes rest (NotAPlan at) leads faults = behind_at next bytes rest leads at faults
behind_faults next bytes rest Memory leads faults = tt

pub choice_faults : (plain : Bool) (list bytes rest : List ℕ) (e : PlanError) → Leads PlanFault (ChoiceFault plain list) bytes rest → Faults (λ at. (l : List ℕ) → Behind bytes rest (ChoiceFault plain l) at) e → Faults (PlanFault bytes) e
choice_faults plain list bytes rest (NotAPlan at) leads faults = behind_at (ChoiceFault plain list) bytes rest leads at (faults list)
choice_faults plain list bytes rest Memory leads faults = tt

regroup : (a b c d e f g h rest : List ℕ) → a ++ (b ++ (c ++ (d ++ (e ++ (f ++ (g ++ (h ++ rest))))))) ≡ (a ++ (b ++ (c ++ (d ++ (e ++ (f ++ (g ++ h))))))) ++ rest
regroup a b c d e f g h rest = sym (simp append_assoc)

-- the parts are a plan
pub parts_plan : (bytes : List ℕ) (head : Head) (rest : List ℕ) (kinds : Kinds) (source : Option (List ℕ)) (more : List ℕ) (count : ℕ) (after : List ℕ) (files : List PlannedFile) (last : List ℕ) → HeadStands bytes head rest → ChoiceStands head.plain rest kinds source more
    → Begins IsCount count_code more count after → FilesTaken (list_name_text head.name head.started) count after files last
    → IsPlan (record { name = head.name; user = head.user; host = head.host; started = head.started; kinds = kinds; source_list = source; files = files })
parts_plan bytes head rest kinds source more count after files last h c n f = record {
  name = h.name;
  user = h.user;
  host = h.host;
  started = h.started;
  kinds = c.chosen;
  source_list = c.source_list;
  inventory = keeps_inventory (list_name_text head.name head.started) files f.kept (subst IsCount (sym f.counted) n.kept);
  clear = f.kept.clear;
}

parts_code : (bytes : List ℕ) (head : Head) (rest : List ℕ) (kinds : Kinds) (source : Option (List ℕ)) (more : List ℕ) (count : ℕ) (after : List ℕ) (files : List PlannedFile) (last : List ℕ) → HeadStands bytes head rest → ChoiceStands head.plain rest kinds source more
    → Begins IsCount count_code more count after → FilesTaken (list_name_text head.name head.started) count after files last
    → bytes ≡ plan_code (record { name = head.name; user = head.user; host = head.host; started = head.started; kinds = kinds; source_list = source; files = files }) ++ last
unfolding plan_code
parts_code bytes head rest kinds source more count after files last h c n f =
    let counted : more ≡ count_code (length files) ++ (flat_map file_code files ++ last) = n.is ∙ (λ i. count_code (sym f.counted i) ++ f.is i) in
    let chosen : rest ≡ choice_code kinds source ++ (count_code (length files) ++ (flat_map file_code files ++ last)) = c.is ∙ ap (λ (l : List ℕ). choice_code kinds source ++ l) counted in
    let marked : bytes ≡ mark_code (is_plain kinds source) ++ (moment_code head.started ++ (label_code head.name ++ (label_code head.user ++ (label_code head.host ++ (choice_code kinds source ++ (count_code (length files) ++ (flat_map file_code files ++ last))))))) =
    h.is ∙ (λ i. mark_code (sym c.mark i) ++ (moment_code head.started ++ (label_code head.name ++ (label_code head.user ++ (label_code head.host ++ chosen i))))) in
    marked ∙ regroup (mark_code (is_plain kinds source)) (moment_code head.started) (label_code head.name) (label_code head.user) (label_code head.host) (choice_code kinds source) (count_code (length files)) (flat_map file_code files) last

pub parts_stand : (bytes : List ℕ) (head : Head) (rest : List ℕ) (kinds : Kinds) (source : Option (List ℕ)) (more : List ℕ) (count : ℕ) (after : List ℕ) (files : List PlannedFile) (last : List ℕ) → HeadStands bytes head rest → ChoiceStands head.plain rest kinds source more
    → Begins IsCount count_code more count after → FilesTaken (list_name_text head.name head.started) count after files last
    → (plan : PlanValue) → plan ≡ record { name = head.name; user = head.user; host = head.host; started = head.started; kinds = kinds; source_list = source; files = files }
    → (used : ℕ) → used ≡ length bytes - length last → PlanStands bytes plan used
parts_stand bytes head rest kinds source more count after files last h c n f plan is used used_is =
    let code = parts_code bytes head rest kinds source more count after files last h c n f in
    let there : bytes ≡ plan_code plan ++ last = code ∙ ap (λ (p : PlanValue). plan_code p ++ last) (sym is) in
    record {
      plan = subst IsPlan (sym is) (parts_plan bytes head rest kinds source more count after files last h c n f);
      rest = last;
      is = there;
      used_is = omega (arith, used_is, ap length there, length-append (plan_code plan) last);
    }

-- what was read is the only plan that stands there
pub read_only : (bytes : List ℕ) (plan : PlanValue) (used : ℕ) → PlanStands bytes plan used → (p : PlanValue) (rest : List ℕ) → IsPlan p → bytes ≡ plan_code p ++ rest → (plan ≡ p) × (used ≡ length (plan_code p))
read_only bytes plan used stands p rest is there =
    let same = one_plan plan p stands.rest rest stands.plan is (sym stands.is ∙ there) in
    (same.0, stands.used_is ∙ ap (λ (q : PlanValue). length (plan_code q)) same.0)

-- where there is a fault, no plan stands
pub fault_no_plan : (bytes : List ℕ) (e : PlanError) → Faults (PlanFault bytes) e → Faults (λ at. PlanFault bytes at × IsNoPlan bytes) e
fault_no_plan bytes (NotAPlan at) fault = (fault, λ p rest plan is. code_no_fault p rest bytes at plan is fault)
fault_no_plan bytes Memory fault = tt

pub fault_memory : (bytes : List ℕ) (e : PlanError) (p : PlanValue) (rest : List ℕ) → Faults (PlanFault bytes) e → IsPlan p → bytes ≡ plan_code p ++ rest → e ≡ Memory
fault_memory bytes (NotAPlan at) p rest fault plan is = absurd (code_no_fault p rest bytes at plan is fault)
fault_memory bytes Memory p rest fault plan is = refl
