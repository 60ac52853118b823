use Rattle.std.proofs.Common.{◌≡◌, [], drop, length, ap, sym, subst, ◌∙◌, arith}
use Rattle.std.proofs.lemmas.List.{length-drop}
use Rattle.path_text.specs.Label.{is_label}
use Rattle.command_words.specs.Jobs.{IsCopiesWord}
use Rattle.command_words.proofs.OffloadRow.{no_label, a_label, row_words, is_offload}
use Rattle.command_words.proofs.offload.offload_row.Goals as goal

pub returns-in_default-read : goal.returns-in_default-read
returns-in_default-read c name user host copies drives kinds row =
    let r = row_words name user host copies drives kinds row in
    no_label c.word.result.now c.in_default-read.field-0 c.in_default-read.ensures (ap is_label (c.word.ensures [] ∙ r.name_word) ∙ r.name_label)

pub returns-in_default-user_and_host : goal.returns-in_default-user_and_host
returns-in_default-user_and_host c name user host copies drives kinds row =
    let r = row_words name user host copies drives kinds row in
    c.in_default-user_and_host.ensures user host r.user_label r.host_label (c.word-2.ensures [] ∙ r.user_word)

pub returns-in_default-copies_and_kinds : goal.returns-in_default-copies_and_kinds
returns-in_default-copies_and_kinds c name user host copies drives kinds row =
    let r = row_words name user host copies drives kinds row in
    c.in_default-copies_and_kinds.ensures copies kinds r.least (omega (arith, r.most, r.many, c.in-Some.ensures)) (subst (IsCopiesWord kinds copies) (sym (c.word-3.ensures [])) r.copies_word)

pub returns : goal.returns
returns c =
    let count : length (drop 5 c.args.words.now) ≡ c.in-Some.drives = omega (arith, length-drop 5 c.args.words.now, c.in-Some.ensures) in
    is_offload c.args.words.now _ _ _ _ _ _ c.requires count record {
      many = omega (arith, count, c.in-Some.ensures);
      some = omega (arith, count, c.in-Some.ensures);
      few = omega (arith, count, c.in-Some.ensures);
      name_word = sym (c.word.ensures []) ∙ sym c.in-Ok.ensures.0;
      name_label = ap is_label c.in-Ok.ensures.0 ∙ a_label c.word.result.now c.in-Ok.ensures.1;
      user_word = sym (c.word-2.ensures []) ∙ c.in-Some-user_and_host.ensures.2;
      user_label = c.in-Some-user_and_host.ensures.0;
      host_label = c.in-Some-user_and_host.ensures.1;
      copies_word = subst (IsCopiesWord _ _) (c.word-3.ensures []) c.in-Some-copies_and_kinds.ensures.2;
      least = c.in-Some-copies_and_kinds.ensures.0;
      most = omega (arith, count, c.in-Some-copies_and_kinds.ensures.1);
      folders = c.if-not-are_folders.ensures;
    }
