use Rattle.std.proofs.Common.{refl}
use Rattle.copy_plan.proofs.Leads.{leads_on, leads_here}
use Rattle.copy_plan.proofs.Heads.{faults_at, no_mark, to_start}
use Rattle.copy_plan.proofs.decoding.take_head.Goals as goal

pub returns-in_default : goal.returns-in_default
returns-in_default c = faults_at _ _ _ c.wrong_at.ensures (no_mark c.args.bytes.now c.in_default.ensures _ refl)

pub returns-in-None : goal.returns-in-None
returns-in-None c =
    let start = to_start c.args.bytes.now c.in-Some.rest.now c.in-Some.plain c.in-Some.ensures in
    faults_at _ _ _ c.wrong_at-in-None.ensures (leads_here start c.in-None.ensures _ refl)

pub returns-in-None-label : goal.returns-in-None-label
returns-in-None-label c =
    let start = to_start c.args.bytes.now c.in-Some.rest.now c.in-Some.plain c.in-Some.ensures in
    let name = leads_on start c.in-Some-moment.ensures in
    faults_at _ _ _ c.wrong_at-in-None-label.ensures (leads_here name c.in-None-label.ensures _ refl)

pub returns-in-None-label-2 : goal.returns-in-None-label-2
returns-in-None-label-2 c =
    let start = to_start c.args.bytes.now c.in-Some.rest.now c.in-Some.plain c.in-Some.ensures in
    let name = leads_on start c.in-Some-moment.ensures in
    let user = leads_on name c.in-Some-label.ensures in
    faults_at _ _ _ c.wrong_at-in-None-label-2.ensures (leads_here user c.in-None-label-2.ensures _ refl)

pub returns-in-None-label-3 : goal.returns-in-None-label-3
returns-in-None-label-3 c =
    let start = to_start c.args.bytes.now c.in-Some.rest.now c.in-Some.plain c.in-Some.ensures in
    let name = leads_on start c.in-Some-moment.ensures in
    let user = leads_on name c.in-Some-label.ensures in
    let host = leads_on user c.in-Some-label-2.ensures in
    faults_at _ _ _ c.wrong_at-in-None-label-3.ensures (leads_here host c.in-None-label-3.ensures _ refl)
