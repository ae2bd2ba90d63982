-- Names between quotes, byte by byte.
use Rattle.std.proofs.Common.{◌≡◌, ℕ, zero, suc, ◌+◌, ◌<◌, Bool, true, false, List, [], ◌∷◌, ◌++◌, refl, sym, ap, ◌∙◌, append_assoc, take, drop, length, get_or, add-one, arith, cond}
use Rattle.ir_tree.specs.Names.{escaped, hex_digit, is_plain}
use Rattle.std.specs.Prelude.{◌/◌, ◌%◌}

-- what stands for a byte stands before what stands for the others
one_escaped : (c : ℕ) (cs : List ℕ) → escaped (c ∷ cs) ≡ escaped (c ∷ []) ++ escaped cs
one_escaped c cs = by (is_plain c)
  where
    by : (b : Bool) → cond b (c ∷ escaped cs) (92 ∷ hex_digit (c / 16) ∷ hex_digit (c % 16) ∷ escaped cs) ≡ cond b (c ∷ []) (92 ∷ hex_digit (c / 16) ∷ hex_digit (c % 16) ∷ []) ++ escaped cs
    by true = refl
    by false = refl

-- and so the first bytes, one more, and the others
pub escaped-more : (name : List ℕ) (i d : ℕ) → i < length name → escaped (take (i + 1) name) ≡ escaped (take i name) ++ escaped (get_or name i d ∷ [])
escaped-more name i d lt = rw add-one (at_suc name i d lt)
  where
    at_suc : (name : List ℕ) (i d : ℕ) → i < length name → escaped (take (suc i) name) ≡ escaped (take i name) ++ escaped (get_or name i d ∷ [])
    at_suc [] i d lt = absurd (omega arith)
    at_suc (c ∷ name) zero d lt = refl
    at_suc (c ∷ name) (suc i) d lt =
        one_escaped c (take (suc i) name) ∙ ap (λ l. escaped (c ∷ []) ++ l) (at_suc name i d (omega arith))
        ∙ sym (append_assoc (escaped (c ∷ [])) (escaped (take i name)) (escaped (get_or name i d ∷ [])))
        ∙ ap (λ l. l ++ escaped (get_or name i d ∷ [])) (sym (one_escaped c (take i name)))

pub escaped-split : (name : List ℕ) (i d : ℕ) → i < length name → escaped name ≡ escaped (take i name) ++ (escaped (get_or name i d ∷ []) ++ escaped (drop (suc i) name))
escaped-split [] i d lt = absurd (omega arith)
escaped-split (c ∷ name) zero d lt = one_escaped c name
escaped-split (c ∷ name) (suc i) d lt =
    one_escaped c name ∙ ap (λ l. escaped (c ∷ []) ++ l) (escaped-split name i d (omega arith))
    ∙ sym (append_assoc (escaped (c ∷ [])) (escaped (take i name)) (escaped (get_or name i d ∷ []) ++ escaped (drop (suc i) name)))
    ∙ ap (λ l. l ++ (escaped (get_or name i d ∷ []) ++ escaped (drop (suc i) name))) (sym (one_escaped c (take i name)))
