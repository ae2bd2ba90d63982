-- A module's own names as they are kept.
use Rattle.std.proofs.Common.{◌≡◌, ◌∙◌, ◌||◌, ◌&&◌, ◌<◌, ◌≤◌, ◌+◌, ℕ, sym, ap, ap₂, refl, Bool, true, false, cond, is_none, List, [], ◌∷◌, ◌++◌, length, drop, drop-cons, add-one, drop_of_length-le, slice_index_or, Bor}
use Rattle.std.proofs.lemmas.Cmp.{nat_list_eq_equiv}
use Rattle.std.specs.List.{list_any}
use Rattle.std.specs.Str.{bytes_eq}
use Rattle.indexmap.specs.IndexSet.{insert_key}
use Rattle.ir_tree.specs.Linkages.{is_local}
use Rattle.ir_tree.specs.declared.function.Linkage.{Linkage}
use Rattle.ir_tree.specs.declared.function.Linkage.TheVariants as linkage
use Rattle.ir_tree.specs.declared.module.GlobalValue.{GlobalValue}
use Rattle.ir_tree.specs.declared.operand.Symbol.{Symbol}
use Rattle.ir_meaning.specs.Programs.{symbol_of}
use Rattle.symbol_resolve.specs.Mentions.{standing_of as standing_with}
use Rattle.merge_meaning.specs.Kept.{is_kept}
use Rattle.merge_meaning.specs.Merged.{is_own, standing_of, symbol_by, symbol_in}

-- what only its module sees is no mention
pub local_standing : (l : Linkage) → is_local l ≡ is_none (standing_with l)
local_standing linkage.Private = refl
local_standing linkage.Internal = refl
local_standing linkage.External = refl
local_standing linkage.Linkonce = refl
local_standing linkage.LinkonceOdr = refl
local_standing linkage.Weak = refl
local_standing linkage.WeakOdr = refl
local_standing linkage.AvailableExternally = refl

abbrev alike : Bor (List ℕ) → Bor (List ℕ) → Bool
alike x y = bytes_eq x.now y.now

or_false : (b : Bool) → (b || false) ≡ b
or_false true = refl
or_false false = refl

-- what is left, as its first item and the rest
pub left : {X : Type 0} (xs : List X) (i : ℕ) (d : X) → i < length xs → drop i xs ≡ slice_index_or xs i d ∷ drop (i + 1) xs
left xs i d lt = drop-cons xs i d lt ∙ ap (λ n. slice_index_or xs i d ∷ drop n xs) (sym (add-one i))

kept_behind : (ks : List (Bor (List ℕ))) (k : Bor (List ℕ)) (name : List ℕ) → is_kept (ks ++ k ∷ []) name ≡ (is_kept ks name || bytes_eq name k.now)
kept_behind [] k name = or_false (bytes_eq name k.now)
kept_behind (x ∷ xs) k name = ap (λ (b : Bool). bytes_eq name x.now || b) (kept_behind xs k name) ∙ grouped (bytes_eq name x.now)
  where
    grouped : (a : Bool) → (a || (is_kept xs name || bytes_eq name k.now)) ≡ ((a || is_kept xs name) || bytes_eq name k.now)
    grouped true = refl
    grouped false = refl

-- a key that is there already is kept under its name
there : (ks : List (Bor (List ℕ))) (k : Bor (List ℕ)) (name : List ℕ) → list_any (alike k) ks ≡ true → is_kept ks name ≡ (is_kept ks name || bytes_eq name k.now)
there ks k name h = by (bytes_eq name k.now) refl
  where
    found : (ks : List (Bor (List ℕ))) → bytes_eq name k.now ≡ true → is_kept ks name ≡ list_any (alike k) ks
    found [] e = refl
    found (x ∷ xs) e = ap₂ (λ (a b : Bool). a || b) (nat_list_eq_equiv.congr name k.now x.now e) (found xs e)

    by : (b : Bool) → bytes_eq name k.now ≡ b → is_kept ks name ≡ (is_kept ks name || bytes_eq name k.now)
    by true e = found ks e ∙ h ∙ sym (ap₂ (λ (a b : Bool). a || b) (found ks e ∙ h) e)
    by false e = sym (or_false (is_kept ks name)) ∙ sym (ap (λ (b : Bool). is_kept ks name || b) e)

kept_more : (ks : List (Bor (List ℕ))) (k : Bor (List ℕ)) (name : List ℕ) → is_kept (insert_key alike ks k) name ≡ (is_kept ks name || bytes_eq name k.now)
kept_more ks k name = by (list_any (alike k) ks) refl
  where
    by : (b : Bool) → list_any (alike k) ks ≡ b → is_kept (insert_key alike ks k) name ≡ (is_kept ks name || bytes_eq name k.now)
    by true h = ap (λ (b : Bool). is_kept (cond b ks (ks ++ k ∷ [])) name) h ∙ there ks k name h
    by false h = ap (λ (b : Bool). is_kept (cond b ks (ks ++ k ∷ [])) name) h ∙ kept_behind ks k name

module _ (gs : List GlobalValue) (i : ℕ) (d : GlobalValue) (lt : i < length gs) (ks : List (Bor (List ℕ))) (so_far : (name : List ℕ) → (is_kept ks name || is_own (drop i gs) name) ≡ is_own gs name) where
  abbrev one : GlobalValue
  one = slice_index_or gs i d

  at : (name : List ℕ) → (is_kept ks name || ((is_none (standing_of one) && bytes_eq name (symbol_of one).name) || is_own (drop (i + 1) gs) name)) ≡ is_own gs name
  at name = ap (λ (z : List GlobalValue). is_kept ks name || is_own z name) (sym (left gs i d lt)) ∙ so_far name

  -- a local definition
  pub own_more : (then : List (Bor (List ℕ))) (k : Bor (List ℕ)) → k.now ≡ (symbol_of one).name → is_none (standing_of one) ≡ true → then ≡ insert_key alike ks k
      → (name : List ℕ) → (is_kept then name || is_own (drop (i + 1) gs) name) ≡ is_own gs name
  own_more then k is local then_is name =
      ap (λ (z : List (Bor (List ℕ))). is_kept z name || is_own (drop (i + 1) gs) name) then_is
      ∙ ap (λ (b : Bool). b || is_own (drop (i + 1) gs) name) (kept_more ks k name ∙ ap (λ (z : List ℕ). is_kept ks name || bytes_eq name z) is)
      ∙ grouped (is_kept ks name) (bytes_eq name (symbol_of one).name) (is_own (drop (i + 1) gs) name)
      ∙ sym (ap (λ (b : Bool). is_kept ks name || ((b && bytes_eq name (symbol_of one).name) || is_own (drop (i + 1) gs) name)) local)
      ∙ at name
    where
      grouped : (a b c : Bool) → ((a || b) || c) ≡ (a || (b || c))
      grouped true b c = refl
      grouped false b c = refl

  -- another one
  pub not_own : is_none (standing_of one) ≡ false → (name : List ℕ) → (is_kept ks name || is_own (drop (i + 1) gs) name) ≡ is_own gs name
  not_own local name = sym (ap (λ (b : Bool). is_kept ks name || ((b && bytes_eq name (symbol_of one).name) || is_own (drop (i + 1) gs) name)) local) ∙ at name

pub own_done : (gs : List GlobalValue) (i : ℕ) (ks : List (Bor (List ℕ))) → length gs ≤ i
    → ((name : List ℕ) → (is_kept ks name || is_own (drop i gs) name) ≡ is_own gs name) → (name : List ℕ) → is_kept ks name ≡ is_own gs name
own_done gs i ks past so_far name =
    sym (or_false (is_kept ks name)) ∙ sym (ap (λ (z : List GlobalValue). is_kept ks name || is_own z name) (drop_of_length-le gs past)) ∙ so_far name

-- names that are kept as a module's own take names to the module's symbols
pub same_symbols : (k : ℕ) (keys : List (Bor (List ℕ))) (gs : List GlobalValue) → ((name : List ℕ) → is_kept keys name ≡ is_own gs name)
    → symbol_by k (is_kept keys) ≡ symbol_in k gs
same_symbols k keys gs h = λ i. λ (s : Symbol). symbol_by k (λ (name : List ℕ). h name i) s
