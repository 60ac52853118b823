use Rattle.std.proofs.Common.{refl, sym, ◌∙◌, ap, Option, ℕ}
use Rattle.std.specs.Prelude.{is_some}
use Rattle.std.specs.FinMap.{get}
use Rattle.folder_listing.specs.Listing.{sizes_in}
use Rattle.folder_listing.proofs.Crossed.{taken_there, taken_decided}
use Rattle.folder_listing.proofs.folder.Folder.is_taken.Goals as goal

pub returns-then-is_some : goal.returns-then-is_some
returns-then-is_some c =
    (λ _. taken_there (get (sizes_in c.args.self.now)) c.args.path.now (ap (λ (o : Option ℕ). is_some o) (sym c.size.ensures) ∙ sym c.is_some.ensures ∙ c.if-is_some.true), λ _. refl)

pub returns : goal.returns
returns c =
    taken_decided (get (sizes_in c.args.self.now)) c.args.path.now c.is_crossed.result (ap (λ (o : Option ℕ). is_some o) (sym c.size.ensures) ∙ sym c.is_some.ensures ∙ c.if-is_some.false) c.is_crossed.ensures
