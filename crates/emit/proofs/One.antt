-- Values have one linked module.
use Rattle.std.proofs.Common.{◌≡◌, ◌∙◌, ◌&&◌, not, ℕ, Bool, true, false, if◌then◌else◌, List, [], ◌∷◌, ◌++◌, map, filter, refl, sym, ap, ap₂, subst}
use Rattle.std.proofs.lemmas.Cmp.{nat_list_cmp_total}
use Rattle.std.proofs.lemmas.List.Elements.{filter_agree}
use Rattle.std.proofs.lemmas.List.Sorted.{ranks_by}
use Rattle.std.specs.Ordering.{is_lt}
use Rattle.ir_tree.specs.declared.module.GlobalValue.{GlobalValue}
use Rattle.ir_meaning.specs.Programs.{symbol_of}
use Rattle.merge_meaning.specs.ByName.{IsInOrder, is_named, name_cmp}
use Rattle.merge_meaning.specs.Hosts.{getchar, putchar}
use Rattle.emit.specs.Emissions.{IsEmission, in_use, is_variable, outside_in_use, settled}
use Rattle.emit.specs.Laws.{EmissionIsOne}
use Rattle.combined_index.proofs.StableSorts.{same_sorted}

one_order : (before after other : List GlobalValue) → IsInOrder before after → IsInOrder before other → after ≡ other
one_order before after other h g =
    same_sorted (λ (a b : GlobalValue). is_lt (name_cmp a b)) (ranks_by nat_list_cmp_total (λ (x : GlobalValue). (symbol_of x).name)) after other h.sorted g.sorted (λ x. h.stable x ∙ sym (g.stable x))

same_test : (a b : Bool) → (a ≡ true → b ≡ true) → (b ≡ true → a ≡ true) → a ≡ b
same_test true b to back = sym (to refl)
same_test false true to back = back refl
same_test false false to back = refl

module _ (exports : List (List ℕ)) (hs ks js : List GlobalValue) (e : IsEmission exports hs ks) (d : IsEmission exports hs js) where
  keeps : (name : List ℕ) → e.keeps name ≡ d.keeps name
  keeps name = same_test (e.keeps name) (d.keeps name) (λ h. (d.kept name).1 ((e.kept name).0 h)) (λ h. (e.kept name).1 ((d.kept name).0 h))

  group : (such : GlobalValue → Bool) → filter (λ (h : GlobalValue). e.keeps (symbol_of h).name && such h) hs ≡ filter (λ (h : GlobalValue). d.keeps (symbol_of h).name && such h) hs
  group such =
      filter_agree (λ (h : GlobalValue). e.keeps (symbol_of h).name && such h) (λ (h : GlobalValue). d.keeps (symbol_of h).name && such h)
      (λ h. ap (λ (b : Bool). b && such h) (keeps (symbol_of h).name)) hs

  variables : e.variables ≡ d.variables
  variables = one_order _ e.variables d.variables (subst (λ (gs : List GlobalValue). IsInOrder gs e.variables) (group is_variable) e.variables_are) d.variables_are

  functions : e.functions ≡ d.functions
  functions = one_order _ e.functions d.functions (subst (λ (gs : List GlobalValue). IsInOrder gs e.functions) (group (λ h. not (is_variable h))) e.functions_are) d.functions_are

  used : (g : GlobalValue) → in_use e.keeps hs g ≡ in_use d.keeps hs g
  used g = ap (λ (b : Bool). if b && not (is_named hs (symbol_of g).name) then g ∷ [] else []) (keeps (symbol_of g).name)

  one_emission : ks ≡ js
  one_emission =
      e.is
      ∙ ap₂ (λ (vs os : List GlobalValue). map (settled exports) vs ++ (os ++ map (settled exports) e.functions)) variables
      (ap₂ (λ (a b : List GlobalValue). a ++ b) (used getchar) (used putchar))
      ∙ ap (λ (fs : List GlobalValue). map (settled exports) d.variables ++ (outside_in_use d.keeps hs ++ map (settled exports) fs)) functions
      ∙ sym d.is

pub is_one : EmissionIsOne
is_one exports hs ks js e d = one_emission exports hs ks js e d
