-- The lines of values, one behind the other.
use Rattle.std.proofs.Common.{◌≡◌, ◌∙◌, ℕ, List, [], ◌∷◌, ◌++◌, append_assoc, refl, sym, ap}
use Rattle.ir_lex.specs.Pieces.{bytes_of}
use Rattle.ir_tree.specs.declared.module.GlobalValue.{GlobalValue}
use Rattle.ir_print.specs.Modules.{global_value, global_values, text_of}

pub values_append : (gs hs : List GlobalValue) → text_of (global_values (gs ++ hs)) ≡ text_of (global_values gs) ++ text_of (global_values hs)
values_append [] hs = refl
values_append (g ∷ gs) hs =
    ap (λ (t : List ℕ). bytes_of (global_value g) ++ (10 ∷ t)) (values_append gs hs)
    ∙ sym (append_assoc (bytes_of (global_value g)) (10 ∷ text_of (global_values gs)) (text_of (global_values hs)))

-- written one behind the other
pub two_written : (gs hs : List GlobalValue) (a b c : List ℕ) → a ≡ [] → b ≡ a ++ text_of (global_values gs) → c ≡ b ++ text_of (global_values hs) → c ≡ text_of (global_values (gs ++ hs))
two_written gs hs a b c none first second =
    second
    ∙ ap (λ (t : List ℕ). t ++ text_of (global_values hs)) (first ∙ ap (λ (t : List ℕ). t ++ text_of (global_values gs)) none)
    ∙ sym (values_append gs hs)

-- six texts behind one another
pub six_written : (none one two three four five all a b c d e f : List ℕ) → none ≡ [] → one ≡ none ++ a → two ≡ one ++ b → three ≡ two ++ c → four ≡ three ++ d → five ≡ four ++ e → all ≡ five ++ f
    → all ≡ a ++ (b ++ (c ++ (d ++ (e ++ f))))
six_written none one two three four five all a b c d e f at_0 at_1 at_2 at_3 at_4 at_5 at_6 =
    at_6 ∙ ap (λ (l : List ℕ). l ++ f) (at_5 ∙ ap (λ (l : List ℕ). l ++ e) (at_4 ∙ ap (λ (l : List ℕ). l ++ d) (at_3 ∙ ap (λ (l : List ℕ). l ++ c) (at_2 ∙ ap (λ (l : List ℕ). l ++ b) (at_1 ∙ ap (λ (l : List ℕ). l ++ a) at_0)))))
    ∙ append_assoc (((a ++ b) ++ c) ++ d) e f ∙ append_assoc ((a ++ b) ++ c) d (e ++ f) ∙ append_assoc (a ++ b) c (d ++ (e ++ f)) ∙ append_assoc a b (c ++ (d ++ (e ++ f)))
