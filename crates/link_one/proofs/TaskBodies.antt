-- The bodies that a task offers are those of the link: declarations offer none, and values in the order of names offer what they did.
use Rattle.std.proofs.Common.{◌≡◌, ◌∙◌, ◌&&◌, ℕ, Bool, true, false, not, cond, nat_le, if◌then◌else◌, List, [], ◌∷◌, ◌++◌, All, Option, Some, None, refl, sym, ap, ap₂}
use Rattle.std.proofs.lemmas.Bool.{false≢true}
use Rattle.std.proofs.lemmas.Cmp.{nat_list_cmp_total}
use Rattle.std.proofs.lemmas.List.Elements.{All-head, All-tail}
use Rattle.std.proofs.lemmas.List.Sorted.{ranks_by}
use Rattle.std.proofs.lemmas.Slice.Eq.{bytes_eq-Decides}
use Rattle.std.specs.Cmp.{IsStrictWeakOrder}
use Rattle.std.specs.Cmp.Lexicographic.{slice_cmp}
use Rattle.std.specs.List.{filter}
use Rattle.std.specs.List.Sorted.{ties}
use Rattle.std.specs.Ordering.{is_lt, nat_cmp}
use Rattle.std.specs.Str.{bytes_eq}
use Rattle.ir_tree.specs.Linkages.{defines, is_replaceable}
use Rattle.ir_tree.specs.declared.function.Function.{Function}
use Rattle.ir_tree.specs.declared.module.GlobalValue.{GlobalValue}
use Rattle.ir_tree.specs.declared.module.GlobalValue.TheVariants as global
use Rattle.ir_meaning.specs.Programs.{symbol_of}
use Rattle.merge_meaning.specs.ByName.{IsInOrder, name_cmp}
use Rattle.merge_meaning.specs.Hosts.{host}
use Rattle.back_end.specs.Inlinable.{bodies_of, calls, count, may_inline, offered, or_else}
use Rattle.link_one.specs.TaskUnits.{is_defined}
use Rattle.link_one.proofs.Moved.{tied_itself}

grouped : (a b c : Option Function) → or_else a (or_else b c) ≡ or_else (or_else a b) c
grouped (Some f) b c = refl
grouped None b c = refl

else_none : (o : Option Function) → or_else o None ≡ o
else_none (Some f) = refl
else_none None = refl

none_if : (m : Bool) (f : Function) → (if m && false then Some f else None) ≡ None
none_if true f = refl
none_if false f = refl

abbrev lesser : GlobalValue → GlobalValue → Bool
lesser g h = is_lt (name_cmp g h)

order : IsStrictWeakOrder lesser
order = ranks_by nat_list_cmp_total (λ (g : GlobalValue). (symbol_of g).name)

module _ (limit : ℕ) (name : List ℕ) where
  bodies_append : (xs ys : List GlobalValue) → bodies_of limit (xs ++ ys) name ≡ or_else (bodies_of limit xs name) (bodies_of limit ys name)
  bodies_append [] ys = refl
  bodies_append (g ∷ xs) ys = ap (or_else (offered limit g name)) (bodies_append xs ys) ∙ grouped (offered limit g name) (bodies_of limit xs name) (bodies_of limit ys name)

  -- ---- declarations

  offers_none : (g : GlobalValue) → is_defined g ≡ false → offered limit g name ≡ None
  offers_none (global.Variable v) e = refl
  offers_none (global.Function f) e =
      ap
      (λ (b : Bool).
      if (b && defines f.linkage && not (is_replaceable f.linkage) && not f.noinline && not f.optnone && not (calls f.symbol.name f.blocks) && nat_le (count f) limit) && bytes_eq f.symbol.name name then Some f else None)
      e

  none_offered : (ds : List GlobalValue) → All (λ d. is_defined d ≡ false) ds → bodies_of limit ds name ≡ None
  none_offered [] off = refl
  none_offered (d ∷ ds) off =
      ap (λ (o : Option Function). or_else o (bodies_of limit ds name)) (offers_none d (All-head (λ (g : GlobalValue). is_defined g ≡ false) d ds off))
      ∙ none_offered ds (All-tail (λ (g : GlobalValue). is_defined g ≡ false) d ds off)

  with_declared : (gs ds : List GlobalValue) → All (λ d. is_defined d ≡ false) ds → bodies_of limit (gs ++ ds) name ≡ bodies_of limit gs name
  with_declared gs ds off = bodies_append gs ds ∙ ap (or_else (bodies_of limit gs name)) (none_offered ds off) ∙ else_none (bodies_of limit gs name)

  -- ---- the order of names

  other_name : (g : GlobalValue) → bytes_eq (symbol_of g).name name ≡ false → offered limit g name ≡ None
  other_name (global.Variable v) e = refl
  other_name (global.Function f) e = ap (λ (b : Bool). if may_inline limit f && b then Some f else None) e ∙ none_if (may_inline limit f) f

  -- only values of this name matter
  of_name : (p : GlobalValue → Bool) → ((g : GlobalValue) → bytes_eq (symbol_of g).name name ≡ true → p g ≡ true) → (gs : List GlobalValue) → bodies_of limit (filter p gs) name ≡ bodies_of limit gs name
  of_name p so [] = refl
  of_name p so (g ∷ gs) = by (p g) refl (bytes_eq (symbol_of g).name name) refl (of_name p so gs)
    where
      by : (b : Bool) → p g ≡ b → (n : Bool) → bytes_eq (symbol_of g).name name ≡ n → bodies_of limit (filter p gs) name ≡ bodies_of limit gs name
          → bodies_of limit (cond b (g ∷ filter p gs) (filter p gs)) name ≡ or_else (offered limit g name) (bodies_of limit gs name)
      by true e n f rest = ap (or_else (offered limit g name)) rest
      by false e true f rest = absurd (false≢true (sym e ∙ so g f))
      by false e false f rest = rest ∙ sym (ap (λ (o : Option Function). or_else o (bodies_of limit gs name)) (other_name g f))

  in_order : (before after : List GlobalValue) → IsInOrder before after → bodies_of limit after name ≡ bodies_of limit before name
  in_order before after o =
      let x : GlobalValue = host name [] in
      let so : (g : GlobalValue) → bytes_eq (symbol_of g).name name ≡ true → ties lesser x g ≡ true =
      λ g e. ap (λ (n : List ℕ). not (is_lt (slice_cmp nat_cmp name n)) && not (is_lt (slice_cmp nat_cmp n name))) ((bytes_eq-Decides (symbol_of g).name name).0 e) ∙ tied_itself lesser order x in
      sym (of_name (ties lesser x) so after) ∙ ap (λ (gs : List GlobalValue). bodies_of limit gs name) (o.stable x) ∙ of_name (ties lesser x) so before

  pub task_bodies : (brought bodies imported_declared part own_declared : List GlobalValue) → IsInOrder brought bodies → All (λ d. is_defined d ≡ false) imported_declared → All (λ d. is_defined d ≡ false) own_declared
      → bodies_of limit ((bodies ++ imported_declared) ++ (part ++ own_declared)) name ≡ bodies_of limit (brought ++ part) name
  task_bodies brought bodies imported_declared part own_declared sorted off none =
      bodies_append (bodies ++ imported_declared) (part ++ own_declared)
      ∙ ap₂ or_else (with_declared bodies imported_declared off ∙ in_order brought bodies sorted) (with_declared part own_declared none)
      ∙ sym (bodies_append brought part)
