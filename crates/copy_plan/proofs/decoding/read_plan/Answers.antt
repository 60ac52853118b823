use Rattle.std.proofs.Common.{refl, subst, ◌-◌, length, []}
use Rattle.path_text.specs.ListName.{list_name_text}
use Rattle.copy_plan.specs.Fields.{FilesFault}
use Rattle.copy_plan.specs.Decoding.{Faults, Behind, FilesTaken}
use Rattle.copy_plan.proofs.Leads.{leads_on, leads_here}
use Rattle.copy_plan.proofs.Heads.{faults_at}
use Rattle.copy_plan.proofs.Whole.{head_leads, choice_leads, choice_faults, behind_faults, parts_stand}
use Rattle.copy_plan.proofs.decoding.read_plan.Goals as goal

pub returns-in-Err-take_choice : goal.returns-in-Err-take_choice
returns-in-Err-take_choice c =
    let head = c.in-Ok.taken.0 in
    let leads = head_leads c.args.bytes.now head c.in-Ok.taken.1.now c.in-Ok.ensures in
    choice_faults head.plain (list_name_text head.name head.started) c.args.bytes.now c.in-Ok.taken.1.now c.in-Err-take_choice.error leads c.in-Err-take_choice.ensures

pub returns-in_default : goal.returns-in_default
returns-in_default c =
    let head = c.in-Ok.taken.0 in
    let leads = head_leads c.args.bytes.now head c.in-Ok.taken.1.now c.in-Ok.ensures in
    let count = choice_leads head.plain (list_name_text head.name head.started) c.args.bytes.now c.in-Ok.taken.1.now c.in-Ok-take_choice.taken.1.now c.in-Ok-take_choice.taken.0.0 c.in-Ok-take_choice.taken.0.1 leads c.in-Ok-take_choice.ensures in
    faults_at _ _ _ c.wrong_at.ensures (leads_here count c.in_default.ensures _ refl)

pub returns-in-Err-take_files : goal.returns-in-Err-take_files
returns-in-Err-take_files c =
    let head = c.in-Ok.taken.0 in
    let leads = head_leads c.args.bytes.now head c.in-Ok.taken.1.now c.in-Ok.ensures in
    let count = choice_leads head.plain (list_name_text head.name head.started) c.args.bytes.now c.in-Ok.taken.1.now c.in-Ok-take_choice.taken.1.now c.in-Ok-take_choice.taken.0.0 c.in-Ok-take_choice.taken.0.1 leads c.in-Ok-take_choice.ensures in
    let files = leads_on count c.in-Some.ensures in
    behind_faults _ c.args.bytes.now c.in-Some.after.now c.in-Err-take_files.error files
    (subst (λ list. Faults (Behind c.args.bytes.now c.in-Some.after.now (FilesFault list [] c.in-Some.count)) c.in-Err-take_files.error) c.in-Ok-list_name.ensures c.in-Err-take_files.ensures)

pub returns : goal.returns
returns c =
    let head = c.in-Ok.taken.0 in
    parts_stand c.args.bytes.now head c.in-Ok.taken.1.now c.in-Ok-take_choice.taken.0.0 c.in-Ok-take_choice.taken.0.1 c.in-Ok-take_choice.taken.1.now c.in-Some.count c.in-Some.after.now c.in-Ok-take_files.taken.0.items c.in-Ok-take_files.taken.1.now
    c.in-Ok.ensures c.in-Ok-take_choice.ensures c.in-Some.ensures (subst (λ list. FilesTaken list c.in-Some.count c.in-Some.after.now c.in-Ok-take_files.taken.0.items c.in-Ok-take_files.taken.1.now) c.in-Ok-list_name.ensures c.in-Ok-take_files.ensures)
    c.of_parts-plan.result c.of_parts-plan.ensures (length c.args.bytes.now - length c.in-Ok-take_files.taken.1.now) refl
