-- The head of a plan, and where it goes wrong.
use Rattle.std.proofs.Common.{◌≡◌, inl, inr, ℕ, ◌+◌, ◌-◌, ◌≤◌, Bool, false, List, length, refl, sym, ap, subst, arith, length-append}
use Rattle.copy_plan.specs.declared.decoding.PlanError.{PlanError}
use Rattle.copy_plan.specs.declared.decoding.PlanError.TheVariants.{NotAPlan}
use Rattle.copy_plan.specs.Fields.{Begins, BeginsNone, FaultFrom, mark_code, IsMark, StartFault, ChoiceFault, CountFault, PlanFault, Fails, IsChosen, IsChoice, kinds_code, source_code}
use Rattle.path_text.specs.declared.kinds.Kinds.{Kinds}
use Rattle.copy_plan.specs.declared.fields.FieldError.{FieldError}
use Rattle.copy_plan.specs.declared.fields.FieldError.TheVariants.{Broken, Memory as Wanting}
use Rattle.copy_plan.specs.Decoding.{Faults, Behind, wrong}
use Rattle.copy_plan.proofs.Leads.{Leads, leads_start, leads_on, leads_here}

-- a refusal with this place
pub faults_at : (Wrong : ℕ → Type 0) (e : PlanError) (at : ℕ) → e ≡ NotAPlan at → Wrong at → Faults Wrong e
faults_at Wrong e at is wrong = subst (Faults Wrong) (sym is) wrong

-- what is left is no longer than what it was left of
pub rest_short : {A : Type 0} {rule : A → Type 0} {code : A → List ℕ} {bytes : List ℕ} {a : A} {rest : List ℕ} → Begins rule code bytes a rest → length rest ≤ length bytes
rest_short {A} {rule} {code} {bytes} {a} {rest} begins = omega (arith, ap length begins.is, length-append (code a) rest)

pub to_start : (bytes rest : List ℕ) (plain : Bool) → Begins IsMark mark_code bytes plain rest → Leads PlanFault (StartFault plain) bytes rest
unfolding PlanFault
to_start bytes rest plain begins = leads_on (leads_start (FaultFrom IsMark mark_code StartFault) bytes) begins

pub no_mark : (bytes : List ℕ) → BeginsNone IsMark mark_code bytes → (at : ℕ) → at ≡ length bytes - length bytes → PlanFault bytes at
unfolding PlanFault
no_mark bytes none at is = leads_here (leads_start (FaultFrom IsMark mark_code StartFault) bytes) none at is

no_kinds : (plain : Bool) (list rest : List ℕ) → plain ≡ false → BeginsNone IsChosen kinds_code rest → ChoiceFault plain list rest 0
unfolding ChoiceFault
no_kinds plain list rest is none = subst (λ (b : Bool). ChoiceFault b list rest 0) (sym is) (inl (refl, none))

-- the kinds of a plan do not stand
pub choice_none : (plain : Bool) (bytes rest : List ℕ) (e : PlanError) → plain ≡ false → BeginsNone IsChosen kinds_code rest → e ≡ NotAPlan (length bytes - length rest) → Faults (λ at. (list : List ℕ) → Behind bytes rest (ChoiceFault plain list) at) e
choice_none plain bytes rest e is none at =
    faults_at _ e _ at (λ list. record { later = 0; at_is = omega arith; fault = no_kinds plain list rest is none })

no_source : (plain : Bool) (list rest more : List ℕ) (kinds : Kinds) → plain ≡ false → Begins IsChosen kinds_code rest kinds more → BeginsNone (IsChoice kinds) source_code more → ChoiceFault plain list rest (length rest - length more)
unfolding ChoiceFault
no_source plain list rest more kinds is begins none =
    let long : length (kinds_code kinds) + 0 ≡ length rest - length more = omega (arith, ap length begins.is, length-append (kinds_code kinds) more) in
    let one : FaultFrom (IsChoice kinds) source_code (λ source. CountFault list) more 0 = inl (refl, none) in
    subst (λ (b : Bool). ChoiceFault b list rest (length rest - length more)) (sym is) (inr (kinds, more, 0, begins, sym long, one))

-- the source list of a plan could not be taken
pub choice_failed : (plain : Bool) (bytes rest more : List ℕ) (kinds : Kinds) (error : FieldError) (e : PlanError) → length rest ≤ length bytes → plain ≡ false → Begins IsChosen kinds_code rest kinds more → Fails (IsChoice kinds) source_code more error → e ≡ wrong error (length bytes - length more)
    → Faults (λ at. (list : List ℕ) → Behind bytes rest (ChoiceFault plain list) at) e
choice_failed plain bytes rest more kinds Wanting e short is begins fails at = subst (Faults (λ at. (list : List ℕ) → Behind bytes rest (ChoiceFault plain list) at)) (sym at) tt
choice_failed plain bytes rest more kinds Broken e short is begins fails at =
    let within = rest_short begins in
    faults_at _ e _ at (λ list. record { later = length rest - length more; at_is = omega arith; fault = no_source plain list rest more kinds is begins fails })
