use Rattle.std.proofs.Common.{rules, sym, refl, ap, ◌∙◌, subst}
use Rattle.bay_core.specs.Map.{AllDated}
use Rattle.bay_mem.specs.Files.{Files}
use Rattle.bay_core.specs.declared.event.Event.TheVariants.{AttachSource}
use Rattle.bay_mem.proofs.Attaching.{pushed, adds_card_from, keeps_added_card}
use Rattle.bay_mem.proofs.mem_world.MemWorld.attach_card.Goals as goal

pub returns-clause-ok : goal.returns-clause-ok
returns-clause-ok c =
    adds_card_from _ _ _ _ _ _ _ _ c.self.view_is (search rules)
    (pushed _ _ _ _ _ refl c.in_ok-push.ensures.items (ap (AttachSource c.len-s.result) (c.in_ok-place.ensures ∙ c.as_bytes.ensures.value)))
    (pushed _ _ _ _ _ c.in_ok-reserve.ensures.items c.in-Ok-Ok.ensures.items c.in_ok-files.ensures.same)
    (pushed _ _ _ _ _ c.in_ok-reserve-2.ensures.items c.in-Ok-Ok.ensures'.items refl)
    (sym c.in-Some.ensures.found) (subst (λ (f : Files). AllDated f.map f.dates) c.in_ok-files.ensures.same c.in_ok-files.ensures.dated) c.in-Some.ensures.kept

pub invariant_of-self-2 : goal.invariant_of-self-2
invariant_of-self-2 c = keeps_added_card _ _ _ _ (returns-clause-ok c)
