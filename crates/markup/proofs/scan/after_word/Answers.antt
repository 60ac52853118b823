use Rattle.std.proofs.Common.{◌≡◌, ◌++◌, Some, None}
use Rattle.std.proofs.lemmas.Bool.Decides.{Decides-eqb}
use Rattle.std.proofs.lemmas.Slice.Eq.{strip_prefix_is}
use Rattle.markup.proofs.Options.{strip_again, strip_none}
use Rattle.markup.proofs.scan.after_word.Goals as goal

pub returns-in-Some : goal.returns-in-Some
returns-in-Some c =
    let e : c.args.bytes.now ≡ c.args.word.now ++ c.in-Some.rest.now = strip_prefix_is Decides-eqb c.args.bytes.now c.args.word.now (Some c.in-Some.rest) c.in-Some.ensures.cases in
    rw e (strip_again c.args.word.now c.in-Some.rest.now)

pub returns-in-None : goal.returns-in-None
returns-in-None c = strip_none c.args.word.now c.args.bytes.now (strip_prefix_is Decides-eqb c.args.bytes.now c.args.word.now None c.in-None.ensures.cases)
