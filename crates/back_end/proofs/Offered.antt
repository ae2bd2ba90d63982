-- The bodies of global values are functions among them.
use Rattle.std.proofs.Common.{◌≡◌, ◌≢◌, ◌∙◌, ◌&&◌, ◌<◌, ℕ, zero, suc, Bool, true, false, not, nat_le, List, [], ◌∷◌, Option, Some, None, All, ap, sym, refl, subst, arith, length, if◌then◌else◌}
use Rattle.std.specs.Prelude.{slice_get, slice_index_or}
use Rattle.std.specs.Str.{bytes_eq}
use Rattle.std.proofs.lemmas.Bool.{and_parts}
use Rattle.ir_tree.specs.Linkages.{defines, is_replaceable}
use Rattle.ir_tree.specs.Wholes.{GlobalSound}
use Rattle.ir_tree.specs.declared.function.Function.{Function}
use Rattle.ir_tree.specs.declared.module.GlobalValue.{GlobalValue}
use Rattle.ir_tree.specs.declared.module.GlobalValue.TheVariants as global
use Rattle.back_end.specs.Inlinable.{AreSound, bodies_of, calls, count, has_blocks, may_inline, offered, or_else}

some_if : (b : Bool) (f c : Function) → (if b then Some f else None) ≡ Some c → (b ≡ true) × (f ≡ c)
some_if true f c e = (refl, cc e)
some_if false f c e = absurd (cc e)

-- ---- one global value

-- the body is that of this function
pub record IsOffered (limit : ℕ) (g : GlobalValue) (c : Function) : Type 0 where
  pub is : g ≡ global.Function c
  pub may : may_inline limit c ≡ true

offered_is : (limit : ℕ) (g : GlobalValue) (name : List ℕ) (c : Function) → offered limit g name ≡ Some c → IsOffered limit g c
offered_is limit (global.Variable v) name c e = absurd (cc e)
offered_is limit (global.Function f) name c e =
    let both = some_if (may_inline limit f && bytes_eq f.symbol.name name) f c e in
    record { is = ap global.Function both.1; may = ap (may_inline limit) (sym both.1) ∙ (and_parts (may_inline limit f) (bytes_eq f.symbol.name name) both.0).0 }

-- ---- among all

pub record IsAmong (limit : ℕ) (gs : List GlobalValue) (c : Function) : Type 0 where
  pub place : ℕ
  pub here : slice_get gs place ≡ Some (global.Function c)
  pub may : may_inline limit c ≡ true

pub among : (limit : ℕ) (gs : List GlobalValue) (name : List ℕ) (c : Function) → bodies_of limit gs name ≡ Some c → IsAmong limit gs c
among limit [] name c e = absurd (cc e)
among limit (g ∷ gs) name c e = by (offered limit g name) refl e (λ k. further (among limit gs name c k))
  where
    further : IsAmong limit gs c → IsAmong limit (g ∷ gs) c
    further rest = record { place = suc rest.place; here = rest.here; may = rest.may }

    by : (o : Option Function) → offered limit g name ≡ o → or_else o (bodies_of limit gs name) ≡ Some c → (bodies_of limit gs name ≡ Some c → IsAmong limit (g ∷ gs) c) → IsAmong limit (g ∷ gs) c
    by (Some f) is e later =
        let one : IsOffered limit g c = offered_is limit g name c (is ∙ e) in
        record { place = 0; here = ap (λ (h : GlobalValue). Some h) one.is; may = one.may }
    by None is e later = later e

-- it has blocks
pub has_body : (limit : ℕ) (c : Function) → may_inline limit c ≡ true → c.blocks ≢ []
has_body limit c may none =
    let six = (and_parts (has_blocks c.blocks && defines c.linkage && not (is_replaceable c.linkage) && not c.noinline && not c.optnone && not (calls c.symbol.name c.blocks)) (nat_le (count c) limit) may).0 in
    let five = (and_parts (has_blocks c.blocks && defines c.linkage && not (is_replaceable c.linkage) && not c.noinline && not c.optnone) (not (calls c.symbol.name c.blocks)) six).0 in
    let four = (and_parts (has_blocks c.blocks && defines c.linkage && not (is_replaceable c.linkage) && not c.noinline) (not c.optnone) five).0 in
    let three = (and_parts (has_blocks c.blocks && defines c.linkage && not (is_replaceable c.linkage)) (not c.noinline) four).0 in
    let two = (and_parts (has_blocks c.blocks && defines c.linkage) (not (is_replaceable c.linkage)) three).0 in
    let some : has_blocks c.blocks ≡ true = (and_parts (has_blocks c.blocks) (defines c.linkage) two).0 in
    let clash : false ≡ true = sym (ap has_blocks none) ∙ some in
    cc clash

-- ---- sound global values have sound bodies

at_place : (gs : List GlobalValue) (i : ℕ) (g : GlobalValue) → slice_get gs i ≡ Some g → (i < length gs) × (slice_index_or gs i g ≡ g)
at_place [] i g e = absurd (cc e)
at_place (h ∷ gs) zero g e = (omega arith, cc e)
at_place (h ∷ gs) (suc i) g e = let rest = at_place gs i g e in let lt : i < length gs = rest.0 in (omega (arith, lt), rest.1)

pub are_sound : (limit : ℕ) (gs : List GlobalValue) → All GlobalSound gs → AreSound (bodies_of limit gs)
are_sound limit gs all name c e =
    let a : IsAmong limit gs c = among limit gs name c e in
    let at = at_place gs a.place (global.Function c) a.here in
    subst GlobalSound at.1 (all a.place (global.Function c) at.0)
