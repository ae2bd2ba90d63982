-- The table of bodies, as one more is put into it.
use Rattle.std.proofs.Common.{◌≡◌, ◌∙◌, ◌&&◌, ◌<◌, ◌+◌, ℕ, Bool, true, false, cond, List, ◌∷◌, Option, Some, None, Bor, ap, sym, refl, drop, drop-cons, length, slice_index_or, option_map, if◌then◌else◌, add-one}
use Rattle.std.proofs.lemmas.Map.Text.{hash_map_updates_str}
use Rattle.std.specs.HashMap.{HashMap, UpdatesBy, get_by}
use Rattle.std.specs.Str.{bytes_eq}
use Rattle.ir_tree.specs.declared.function.Function.{Function}
use Rattle.ir_tree.specs.declared.module.GlobalValue.{GlobalValue}
use Rattle.ir_tree.specs.declared.module.GlobalValue.TheVariants as global
use Rattle.back_end.specs.Inlinable.{bodies_of, may_inline, offered, or_else}
use Rattle.back_end.specs.Walking.{named}

mapped : (b : Bool) (f : Bor Function) (o : Option (Bor Function)) → option_map (λ g. g.now) (cond b (Some f) o) ≡ cond b (Some f.now) (option_map (λ g. g.now) o)
mapped true f o = refl
mapped false f o = refl

pub put_in : {S : Type 0} (old new : HashMap (Bor (List ℕ)) (Bor Function) S) (bs : List ℕ) (f : Bor Function) → UpdatesBy (λ x y. bytes_eq x.now y.now) (λ k. bytes_eq bs k.now) old new (Some f)
    → (name : List ℕ) → named new name ≡ cond (bytes_eq bs name) (Some f.now) (named old name)
put_in old new bs f updates name =
    ap (option_map (λ g. g.now)) (hash_map_updates_str bs old new (Some f) updates name)
    ∙ mapped (bytes_eq bs name) f (get_by (λ k. bytes_eq name k.now) old)

offers : (f : Function) (may same : Bool) (old : Option Function) → may ≡ true → cond same (Some f) old ≡ or_else (if may && same then Some f else None) old
offers f true true old e = refl
offers f true false old e = refl
offers f false same old e = absurd (cc e)

pub noted_then : (limit : ℕ) (g : GlobalValue) (f : Function) → g ≡ global.Function f → may_inline limit f ≡ true → (name : List ℕ) (old : Option Function)
    → cond (bytes_eq f.symbol.name name) (Some f) old ≡ or_else (offered limit g name) old
noted_then limit g f is may name old = offers f (may_inline limit f) (bytes_eq f.symbol.name name) old may ∙ ap (λ (h : GlobalValue). or_else (offered limit h name) old) (sym is)

-- one more global value in front of those that are noted
pub bodies_more : (limit : ℕ) (gs : List GlobalValue) (i : ℕ) (d : GlobalValue) (name : List ℕ) → i < length gs
    → bodies_of limit (drop i gs) name ≡ or_else (offered limit (slice_index_or gs i d) name) (bodies_of limit (drop (i + 1) gs) name)
bodies_more limit gs i d name lt =
    ap (λ (l : List GlobalValue). bodies_of limit l name) (drop-cons gs i d lt ∙ ap (λ n. slice_index_or gs i d ∷ drop n gs) (sym (add-one i)))

-- nothing behind
pub or_else_none : (a : Option Function) → or_else a None ≡ a
or_else_none (Some f) = refl
or_else_none None = refl
