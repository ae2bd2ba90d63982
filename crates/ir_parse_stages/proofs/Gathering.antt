-- Marks behind marks.
use Rattle.std.proofs.Common.{◌≡◌, sym, ap, ◌∙◌, ℕ, ◌+◌, ◌<◌, List, ◌∷◌, ◌++◌, length, drop, get_or, append_assoc, OnOk, Result, Ok, Err}
use Rattle.ir_parse_parts.specs.declared.address.Level.{Level}
use Rattle.ir_parse_names.specs.Marks.{Mark, uses, level_uses}
use Rattle.ir_parse_names.proofs.Each.{here}

-- marks, and then more
pub joined : (first second old mid new : List Mark) → mid ≡ old ++ first → new ≡ mid ++ second → new ≡ old ++ (first ++ second)
joined first second old mid new h g = g ∙ ap (λ ms. ms ++ second) h ∙ append_assoc old first second

-- marks, and then more, where there is memory for them
pub joined_if : {X E : Type 0} (result : Result X E) (first second whole old mid new : List Mark) → whole ≡ first ++ second → mid ≡ old ++ first → OnOk result (new ≡ mid ++ second) → OnOk result (new ≡ old ++ whole)
joined_if (Ok x) first second whole old mid new e h g = joined first second old mid new h g ∙ ap (λ ms. old ++ ms) (sym e)
joined_if (Err d) first second whole old mid new e h g = tt

-- those of one more item of a list
pub goes_on : {A : Type 0} (f : A → List Mark) (g : List A → List Mark) → ((y : A) (ys : List A) → g (y ∷ ys) ≡ f y ++ g ys) → (xs : List A) (k : ℕ) (x : A) (start now next : List Mark)
    → k < length xs → x ≡ get_or xs k x → now ++ g (drop k xs) ≡ start → next ≡ now ++ f x → next ++ g (drop (k + 1) xs) ≡ start
goes_on f g by xs k x start now next at is h e =
    ap (λ ms. ms ++ g (drop (k + 1) xs)) e ∙ append_assoc now (f x) (g (drop (k + 1) xs)) ∙ ap (λ ys. now ++ ys) (sym (ap g (here xs k x at is) ∙ by x (drop (k + 1) xs))) ∙ h

-- those of one more level, from the last one on
pub level_more : (ls : List Level) (k : ℕ) (l : Level) (start now next : List Mark)
    → k < length ls → l ≡ get_or ls k l → now ≡ start ++ level_uses (drop (k + 1) ls) → next ≡ now ++ uses l.typed.shape → next ≡ start ++ level_uses (drop k ls)
level_more ls k l start now next at is h e =
    e ∙ ap (λ ms. ms ++ uses l.typed.shape) h ∙ append_assoc start (level_uses (drop (k + 1) ls)) (uses l.typed.shape) ∙ ap (λ ys. start ++ level_uses ys) (sym (here ls k l at is))
