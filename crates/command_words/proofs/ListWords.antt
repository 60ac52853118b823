-- Which words name a list.
use Rattle.std.proofs.Common.{◌≡◌, ◌≢◌, Bool, true, false, List, ℕ, refl, ◌∙◌, ap}
use Rattle.std.specs.Prelude.{Some, None, is_none, Err, ◌&&◌, ◌==◌, not}
use Rattle.std.specs.List.{list_any}
use Rattle.std.specs.Str.{is_utf8, IsUtf8}
use Rattle.path_text.specs.declared.path.PathError.{PathError}
use Rattle.path_text.specs.declared.path.PathError.TheVariants.{Empty, TooLong, Absolute, BadChar, EmptyPart, DotPart, Memory}
use Rattle.path_text.specs.Path.{PathRead, refusal_of, is_path, is_control_path}
use Rattle.path_text.proofs.Texts.{is_path-text}
use Rattle.command_words.specs.Words.{is_list_word}

and_false : (a : Bool) → a && false ≡ false
and_false true = refl
and_false false = refl

no_path : (word : List ℕ) (e : PathError) → refusal_of word ≡ Some e → is_path word ≡ false
unfolding is_path
no_path word e refused = ap (λ r. is_utf8 word && is_none r) refused ∙ and_false (is_utf8 word)

refused_for : (word : List ℕ) (e : PathError) → PathRead word (Err e) → e ≢ Memory → refusal_of word ≡ Some e
refused_for word Empty read why = read
refused_for word (TooLong n) read why = read
refused_for word Absolute read why = read
refused_for word (BadChar k) read why = read
refused_for word (EmptyPart k) read why = read
refused_for word (DotPart k) read why = read
refused_for word Memory read why = absurd (why refl)

pub no_list_word : (word : List ℕ) (e : PathError) → PathRead word (Err e) → e ≢ Memory → is_list_word word ≡ false
no_list_word word e read why = ap (λ b. b && not (is_control_path word) && not (list_any (λ b. b == 47) word)) (no_path word e (refused_for word e read why))

pub list_word_is : (word : List ℕ) → IsUtf8 word → refusal_of word ≡ None → is_control_path word ≡ false → list_any (λ b. b == 47) word ≡ false → is_list_word word ≡ true
list_word_is word utf8 path control slash =
    ap (λ b. b && not (is_control_path word) && not (list_any (λ b. b == 47) word)) (is_path-text word utf8 ∙ ap is_none path)
    ∙ ap (λ b. true && not b && not (list_any (λ b. b == 47) word)) control ∙ ap (λ b. true && not false && not b) slash
