-- A plan's code is read back as that plan, and leaves no fault.
use Rattle.std.proofs.Common.{◌≡◌, ℕ, Bool, true, false, cond, List, [], ◌++◌, length, refl, sym, ◌∙◌, ap, subst, append_assoc}
use Rattle.std.specs.Prelude.{Option, Some, None, is_none, ◌&&◌, IfSome}
use Rattle.std.specs.List.{flat_map}
use Rattle.path_text.specs.declared.kinds.Kinds.{Kinds}
use Rattle.copy_plan.specs.Plan.{PlanValue, IsPlan, IsSourceList, list_of}
use Rattle.copy_plan.specs.Fields.{mark_code, moment_code, label_code, kinds_code, source_code, choice_code, count_code, file_code, is_plain, plan_code, IsChosen, IsChoice, IsCount, CountFault, ChoiceFault, PlanFault}
use Rattle.copy_plan.proofs.Exact.{mark_exact, moment_exact, label_exact, kinds_exact, source_exact, count_exact}
use Rattle.copy_plan.proofs.Leads.{fault_behind}
use Rattle.copy_plan.proofs.Files.{plan_follows, files_stand, files_exact}

-- the code of a plan and what follows it, field by field
abbrev pub after_count : PlanValue → List ℕ → List ℕ
after_count p rest = flat_map file_code p.files ++ rest

abbrev pub after_choice : PlanValue → List ℕ → List ℕ
after_choice p rest = count_code (length p.files) ++ after_count p rest

abbrev pub after_host : PlanValue → List ℕ → List ℕ
after_host p rest = choice_code p.kinds p.source_list ++ after_choice p rest

abbrev pub after_user : PlanValue → List ℕ → List ℕ
after_user p rest = label_code p.host ++ after_host p rest

abbrev pub after_name : PlanValue → List ℕ → List ℕ
after_name p rest = label_code p.user ++ after_user p rest

abbrev pub after_start : PlanValue → List ℕ → List ℕ
after_start p rest = label_code p.name ++ after_name p rest

abbrev pub after_mark : PlanValue → List ℕ → List ℕ
after_mark p rest = moment_code p.started ++ after_start p rest

regroup : (a b c d e f g h rest : List ℕ) → (a ++ (b ++ (c ++ (d ++ (e ++ (f ++ (g ++ h))))))) ++ rest ≡ a ++ (b ++ (c ++ (d ++ (e ++ (f ++ (g ++ (h ++ rest)))))))
regroup a b c d e f g h rest = simp append_assoc

pub code_fields : (p : PlanValue) (rest : List ℕ) → plan_code p ++ rest ≡ mark_code (is_plain p.kinds p.source_list) ++ after_mark p rest
unfolding plan_code
code_fields p rest = regroup (mark_code (is_plain p.kinds p.source_list)) (moment_code p.started) (label_code p.name) (label_code p.user) (label_code p.host) (choice_code p.kinds p.source_list) (count_code (length p.files)) (flat_map file_code p.files) rest

four_true : (a b c d : Bool) → (a && b && c && d) ≡ true → (a ≡ true) × (b ≡ true) × (c ≡ true) × (d ≡ true)
four_true true true true true is = (refl, refl, refl, refl)
four_true true true true false is = absurd (cc)
four_true true true false d is = absurd (cc)
four_true true false c d is = absurd (cc)
four_true false b c d is = absurd (cc)

none_of : (source : Option (List ℕ)) → is_none source ≡ true → source ≡ None
none_of None is = refl
none_of (Some path) is = absurd (cc)

-- a plain plan shows all kinds and has no source list
pub plain_choice : (kinds : Kinds) (source : Option (List ℕ)) → is_plain kinds source ≡ true → (kinds ≡ record { md5 = true; sha1 = true; xxh = true }) × (source ≡ None)
plain_choice kinds source plain =
    let all = four_true kinds.md5 kinds.sha1 kinds.xxh (is_none source) plain in
    ((λ i. record { md5 = all.0 i; sha1 = all.1 i; xxh = all.2 i }), none_of source all.3)

count_kept : (p : PlanValue) → IsPlan p → IsCount (length p.files)
count_kept p plan = (plan.inventory.some, plan.inventory.few)

pub choice_kept : (kinds : Kinds) (source : Option (List ℕ)) → IfSome source IsSourceList → is_plain kinds source ≡ false → IsChoice kinds source
choice_kept kinds None is plain = plain
choice_kept kinds (Some path) is plain = is

-- the count and the files of a plan leave no fault
no_count_fault : (p : PlanValue) (rest : List ℕ) (at : ℕ) → IsPlan p → CountFault (list_of p) (after_choice p rest) at → ⊥
no_count_fault p rest at plan fault =
    let files = fault_behind count_exact (after_choice p rest) at (length p.files) (after_count p rest) (record { kept = count_kept p plan; is = refl }) fault in
    files_stand (list_of p) [] p.files rest (after_count p rest) files.0 (plan_follows p plan) refl files.2

no_choice_fault : (p : PlanValue) (rest : List ℕ) (at : ℕ) (plain : Bool) → is_plain p.kinds p.source_list ≡ plain → IsPlan p → ChoiceFault plain (list_of p) (after_host p rest) at → ⊥
unfolding ChoiceFault
no_choice_fault p rest at true is plan fault = no_count_fault p rest at plan (subst (λ (b : Bool). CountFault (list_of p) ((cond b [] (kinds_code p.kinds ++ source_code p.source_list)) ++ after_choice p rest) at) is fault)
no_choice_fault p rest at false is plan fault =
    let whole : after_host p rest ≡ kinds_code p.kinds ++ (source_code p.source_list ++ after_choice p rest) =
    ap (λ (b : Bool). cond b [] (kinds_code p.kinds ++ source_code p.source_list) ++ after_choice p rest) is ∙ append_assoc (kinds_code p.kinds) (source_code p.source_list) (after_choice p rest) in
    let kinds = fault_behind kinds_exact (after_host p rest) at p.kinds (source_code p.source_list ++ after_choice p rest) (record { kept = plan.kinds; is = whole }) fault in
    let source = fault_behind (source_exact p.kinds) (source_code p.source_list ++ after_choice p rest) kinds.0 p.source_list (after_choice p rest) (record { kept = choice_kept p.kinds p.source_list plan.source_list is; is = refl }) kinds.2 in
    no_count_fault p rest source.0 plan source.2

-- bytes that begin with the code of a plan have no fault
pub code_no_fault : (p : PlanValue) (rest bytes : List ℕ) (at : ℕ) → IsPlan p → bytes ≡ plan_code p ++ rest → PlanFault bytes at → ⊥
unfolding PlanFault
code_no_fault p rest bytes at plan is fault =
    let mark = fault_behind mark_exact bytes at (is_plain p.kinds p.source_list) (after_mark p rest) (record { kept = tt; is = is ∙ code_fields p rest }) fault in
    let start = fault_behind moment_exact (after_mark p rest) mark.0 p.started (after_start p rest) (record { kept = plan.started; is = refl }) mark.2 in
    let name = fault_behind label_exact (after_start p rest) start.0 p.name (after_name p rest) (record { kept = plan.name; is = refl }) start.2 in
    let user = fault_behind label_exact (after_name p rest) name.0 p.user (after_user p rest) (record { kept = plan.user; is = refl }) name.2 in
    let host = fault_behind label_exact (after_user p rest) user.0 p.host (after_host p rest) (record { kept = plan.host; is = refl }) user.2 in
    no_choice_fault p rest host.0 (is_plain p.kinds p.source_list) refl plan host.2

-- the choices of two plans with the same mark
choices : (a b : Kinds) (x y : Option (List ℕ)) (r s : List ℕ) (plain : Bool) → is_plain a x ≡ plain → is_plain b y ≡ plain → IsChosen a → IsChosen b → IfSome x IsSourceList → IfSome y IsSourceList → choice_code a x ++ r ≡ choice_code b y ++ s → (a ≡ b) × (x ≡ y) × (r ≡ s)
choices a b x y r s true p q c d h k e =
    let one = plain_choice a x p in
    let two = plain_choice b y q in
    let left : choice_code a x ≡ [] = ap (λ (t : Bool). cond t [] (kinds_code a ++ source_code x)) p in
    let right : choice_code b y ≡ [] = ap (λ (t : Bool). cond t [] (kinds_code b ++ source_code y)) q in
    (one.0 ∙ sym two.0, one.1 ∙ sym two.1, sym (ap (λ (l : List ℕ). l ++ r) left) ∙ e ∙ ap (λ (l : List ℕ). l ++ s) right)
choices a b x y r s false p q c d h k e =
    let left : choice_code a x ++ r ≡ kinds_code a ++ (source_code x ++ r) = ap (λ (t : Bool). cond t [] (kinds_code a ++ source_code x) ++ r) p ∙ append_assoc (kinds_code a) (source_code x) r in
    let right : choice_code b y ++ s ≡ kinds_code b ++ (source_code y ++ s) = ap (λ (t : Bool). cond t [] (kinds_code b ++ source_code y) ++ s) q ∙ append_assoc (kinds_code b) (source_code y) s in
    let kinds = kinds_exact.one a b (source_code x ++ r) (source_code y ++ s) c d (sym left ∙ e ∙ right) in
    let moved : is_plain a y ≡ false = ap (λ (k : Kinds). is_plain k y) kinds.0 ∙ q in
    let source = (source_exact a).one x y r s (choice_kept a x h p) (choice_kept a y k moved) kinds.1 in
    (kinds.0, source.0, source.1)

-- bytes begin with the code of one plan at most
pub one_plan : (p q : PlanValue) (r s : List ℕ) → IsPlan p → IsPlan q → plan_code p ++ r ≡ plan_code q ++ s → (p ≡ q) × (r ≡ s)
one_plan p q r s x y e =
    let mark = mark_exact.one (is_plain p.kinds p.source_list) (is_plain q.kinds q.source_list) (after_mark p r) (after_mark q s) tt tt (sym (code_fields p r) ∙ e ∙ code_fields q s) in
    let start = moment_exact.one p.started q.started (after_start p r) (after_start q s) x.started y.started mark.1 in
    let name = label_exact.one p.name q.name (after_name p r) (after_name q s) x.name y.name start.1 in
    let user = label_exact.one p.user q.user (after_user p r) (after_user q s) x.user y.user name.1 in
    let host = label_exact.one p.host q.host (after_host p r) (after_host q s) x.host y.host user.1 in
    let choice = choices p.kinds q.kinds p.source_list q.source_list (after_choice p r) (after_choice q s) (is_plain p.kinds p.source_list) refl (sym mark.0) x.kinds y.kinds x.source_list y.source_list host.1 in
    let count = count_exact.one (length p.files) (length q.files) (after_count p r) (after_count q s) (count_kept p x) (count_kept q y) choice.2 in
    let files = files_exact p.files q.files r s count.0 x.inventory.each y.inventory.each count.1 in
    ((λ i. record { name = name.0 i; user = user.0 i; host = host.0 i; started = start.0 i; kinds = choice.0 i; source_list = choice.1 i; files = files.0 i }), files.1)
