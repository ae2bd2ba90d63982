-- The order of names by their bytes.
use Rattle.std.proofs.Common.{◌≡◌, ◌≢◌, ◌∙◌, ℕ, refl, sym, ap, true, false, List}
use Rattle.std.proofs.lemmas.Cmp.{nat_list_cmp_total}
use Rattle.std.specs.Cmp.Lexicographic.{slice_cmp}
use Rattle.std.specs.Ordering.{nat_cmp, ordering_reverse}
use Rattle.std.specs.declared.cmp.Ordering.{Ordering}
use Rattle.std.specs.declared.cmp.Ordering.TheVariants.{Less, Equal, Greater}
use Rattle.ir_tree.specs.NameOrder.{comes_before, is_less}

abbrev cmp : List ℕ → List ℕ → Ordering
cmp = slice_cmp nat_cmp

abbrev pub AtMost : List ℕ → List ℕ → Type 0
AtMost a b = cmp a b ≢ Greater

turned : (a b : List ℕ) → cmp a b ≡ ordering_reverse (cmp b a)
turned = nat_list_cmp_total.antisymm

pub at_most_itself : (a : List ℕ) → AtMost a a
at_most_itself a h = let twice : Greater ≡ Less = sym h ∙ turned a a ∙ ap ordering_reverse h in cc

pub at_most_before : (a b : List ℕ) → comes_before a b ≡ true → AtMost a b
at_most_before a b h g = let no : is_less Greater ≡ true = sym (ap is_less g) ∙ h in cc

pub at_most_not_before : (a b : List ℕ) → comes_before a b ≡ false → AtMost b a
at_most_not_before a b h g = let no : is_less Less ≡ false = sym (ap is_less (turned a b ∙ ap ordering_reverse g)) ∙ h in cc

pub at_most_through : (a b c : List ℕ) → AtMost a b → AtMost b c → AtMost a c
at_most_through a b c ab bc = by (cmp a b) (cmp b c) refl refl
  where
    by : (x y : Ordering) → cmp a b ≡ x → cmp b c ≡ y → AtMost a c
    by Less Less h g more = let both : Greater ≡ Less = sym more ∙ nat_list_cmp_total.trans a b c h g in cc
    by Less Equal h g more =
        let back : cmp b a ≡ cmp c a = nat_list_cmp_total.congr b c a g in
        let same : cmp a c ≡ cmp a b = turned a c ∙ ap ordering_reverse (sym back) ∙ sym (turned a b) in
        let less : Greater ≡ Less = sym more ∙ same ∙ h in cc
    by Less Greater h g more = bc g
    by Equal y h g more = bc (sym (nat_list_cmp_total.congr a b c h) ∙ more)
    by Greater y h g more = ab h
