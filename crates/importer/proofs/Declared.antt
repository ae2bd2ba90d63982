-- Declarations of what values refer to and lack.
use Rattle.std.proofs.Common.{◌≡◌, ◌≢◌, ◌∙◌, ◌↔◌, ◌⊎◌, inl, inr, ℕ, Bool, true, false, cond, List, [], ◌∷◌, ◌++◌, map, Option, Some, None, refl, sym, ap, subst}
use Rattle.std.proofs.lemmas.Bool.{false≢true}
use Rattle.std.proofs.lemmas.Slice.Eq.{bytes_eq-Decides}
use Rattle.std.specs.Cmp.Lexicographic.{slice_cmp}
use Rattle.std.specs.List.{AllByRecursion, Contains, cons_option, flat_map}
use Rattle.std.specs.List.Sorted.{IsStrictlySortedBy}
use Rattle.std.specs.Ordering.{nat_cmp}
use Rattle.std.specs.Prelude.{filter_map, is_some}
use Rattle.std.specs.Str.{bytes_eq}
use Rattle.std.specs.declared.cmp.Ordering.TheVariants.{Less}
use Rattle.ir_tree.specs.declared.module.GlobalValue.{GlobalValue}
use Rattle.ir_tree.specs.declared.module.GlobalValue.TheVariants as global
use Rattle.ir_tree.specs.declared.operand.Symbol.{Symbol}
use Rattle.ir_summary.specs.References.{global_names}
use Rattle.ir_meaning.specs.Programs.{symbol_of}
use Rattle.lto_task.specs.Declarations.{declaration_of}
use Rattle.lto_task.specs.Pieces.{NamesRise}
use Rattle.merge_meaning.specs.Hosts.{getchar, putchar}
use Rattle.merge_meaning.proofs.Standing.{first_or_later, in_joined, in_map, joined_from, map_from, nothing}
use Rattle.importer.specs.Brought.{value_named}
use Rattle.importer.specs.Tables.{lacked_as}
use Rattle.importer.specs.Tasks.{IsClosedUp, IsLacked, declared_as, name_of}
use Rattle.importer.proofs.Members.{all_of, contained, found_stands}
use Rattle.importer.proofs.Found.{found_from, in_found}

-- ---- as the link has it, or as the system does

symbol_kept : (g : GlobalValue) → symbol_of (declaration_of g) ≡ symbol_of g
symbol_kept (global.Variable v) = refl
symbol_kept (global.Function f) = refl

declared_as_found : (all hosts : List GlobalValue) (name : List ℕ) (g : GlobalValue) → value_named all name ≡ Some g → value_named (map declaration_of all ++ hosts) name ≡ Some (declaration_of g)
declared_as_found [] hosts name g e = absurd (cc e)
declared_as_found (h ∷ all) hosts name g e = by (bytes_eq (symbol_of h).name name) refl e (declared_as_found all hosts name g)
  where
    by : (b : Bool) → bytes_eq (symbol_of h).name name ≡ b → cond b (Some h) (value_named all name) ≡ Some g
        → (value_named all name ≡ Some g → value_named (map declaration_of all ++ hosts) name ≡ Some (declaration_of g))
        → cond (bytes_eq (symbol_of (declaration_of h)).name name) (Some (declaration_of h)) (value_named (map declaration_of all ++ hosts) name) ≡ Some (declaration_of g)
    by true is f rest =
        let same : h ≡ g = cc f in
        ap (λ (b : Bool). cond b (Some (declaration_of h)) (value_named (map declaration_of all ++ hosts) name)) (ap (λ (s : Symbol). bytes_eq s.name name) (symbol_kept h) ∙ is)
        ∙ ap (λ (v : GlobalValue). Some (declaration_of v)) same
    by false is f rest =
        ap (λ (b : Bool). cond b (Some (declaration_of h)) (value_named (map declaration_of all ++ hosts) name)) (ap (λ (s : Symbol). bytes_eq s.name name) (symbol_kept h) ∙ is)
        ∙ rest f

declared_as_host : (all hosts : List GlobalValue) (name : List ℕ) → value_named all name ≡ None → value_named (map declaration_of all ++ hosts) name ≡ value_named hosts name
declared_as_host [] hosts name e = refl
declared_as_host (h ∷ all) hosts name e = by (bytes_eq (symbol_of h).name name) refl e (declared_as_host all hosts name)
  where
    by : (b : Bool) → bytes_eq (symbol_of h).name name ≡ b → cond b (Some h) (value_named all name) ≡ None
        → (value_named all name ≡ None → value_named (map declaration_of all ++ hosts) name ≡ value_named hosts name)
        → cond (bytes_eq (symbol_of (declaration_of h)).name name) (Some (declaration_of h)) (value_named (map declaration_of all ++ hosts) name) ≡ value_named hosts name
    by true is f rest = absurd (cc f)
    by false is f rest =
        ap (λ (b : Bool). cond b (Some (declaration_of h)) (value_named (map declaration_of all ++ hosts) name)) (ap (λ (s : Symbol). bytes_eq s.name name) (symbol_kept h) ∙ is)
        ∙ rest f

pub declared_there : (all : List GlobalValue) (name : List ℕ) (g : GlobalValue) → value_named all name ≡ Some g → Some (declaration_of g) ≡ declared_as all name
declared_there all name g e = sym (declared_as_found all (getchar ∷ (putchar ∷ [])) name g e)

pub declared_outside : (all : List GlobalValue) (name : List ℕ) → value_named all name ≡ None → value_named (getchar ∷ (putchar ∷ [])) name ≡ declared_as all name
declared_outside all name e = sym (declared_as_host all (getchar ∷ (putchar ∷ [])) name e)

-- ---- values by name

-- what is found has the name
named_so : (gs : List GlobalValue) (name : List ℕ) (g : GlobalValue) → value_named gs name ≡ Some g → name_of g ≡ name
named_so [] name g e = absurd (cc e)
named_so (h ∷ gs) name g e = by (bytes_eq (symbol_of h).name name) refl e (named_so gs name g)
  where
    by : (b : Bool) → bytes_eq (symbol_of h).name name ≡ b → cond b (Some h) (value_named gs name) ≡ Some g → (value_named gs name ≡ Some g → name_of g ≡ name) → name_of g ≡ name
    by true is f rest = let same : h ≡ g = cc f in ap name_of (sym same) ∙ (bytes_eq-Decides (symbol_of h).name name).0 is
    by false is f rest = rest f

-- and where nothing is found, nothing has it
none_named : (gs : List GlobalValue) (name : List ℕ) → value_named gs name ≡ None → (g : GlobalValue) → Contains gs g → name_of g ≡ name → ⊥
none_named [] name none g there same = nothing g there
none_named (h ∷ gs) name none g there same = by (bytes_eq (symbol_of h).name name) refl none (first_or_later h g gs there) (λ e later. none_named gs name e g later same)
  where
    by : (b : Bool) → bytes_eq (symbol_of h).name name ≡ b → cond b (Some h) (value_named gs name) ≡ None → (h ≡ g) ⊎ Contains gs g → (value_named gs name ≡ None → Contains gs g → ⊥) → ⊥
    by true is f place rest = cc f
    by false is f (inl first) rest = false≢true (sym is ∙ (bytes_eq-Decides (symbol_of h).name name).1 (ap name_of first ∙ same))
    by false is f (inr later) rest = rest f later

-- ---- all that is lacked

lacked_some : (own : Option GlobalValue) (o : Option GlobalValue) (d : GlobalValue) → cond (is_some own) None o ≡ Some d → (own ≡ None) × (o ≡ Some d)
lacked_some None o d e = (refl, e)
lacked_some (Some g) o d e = absurd (cc e)

module _ (h : List ℕ → Option GlobalValue) (so : (name : List ℕ) (d : GlobalValue) → h name ≡ Some d → name_of d ≡ name) where
  among : (P : List ℕ → Type 0) (names : List (List ℕ)) → AllByRecursion P names → AllByRecursion P (map name_of (filter_map h names))
  among P [] all = all
  among P (n ∷ names) all = by (h n) refl (among P names all.1)
    where
      by : (o : Option GlobalValue) → h n ≡ o → AllByRecursion P (map name_of (filter_map h names)) → AllByRecursion P (map name_of (cons_option o (filter_map h names)))
      by None is rest = rest
      by (Some d) is rest = (subst P (sym (so n d is)) all.0, rest)

  found_rise : (names : List (List ℕ)) → IsStrictlySortedBy (slice_cmp nat_cmp) names → IsStrictlySortedBy (slice_cmp nat_cmp) (map name_of (filter_map h names))
  unfolding IsStrictlySortedBy
  found_rise [] up = up
  found_rise (n ∷ names) up = by (h n) refl (found_rise names up.1)
    where
      by : (o : Option GlobalValue) → h n ≡ o → IsStrictlySortedBy (slice_cmp nat_cmp) (map name_of (filter_map h names)) → IsStrictlySortedBy (slice_cmp nat_cmp) (map name_of (cons_option o (filter_map h names)))
      by None is rest = rest
      by (Some d) is rest =
          (subst (λ (m : List ℕ). AllByRecursion (λ y. slice_cmp nat_cmp m y ≡ Less) (map name_of (filter_map h names))) (sym (so n d is)) (among (λ y. slice_cmp nat_cmp n y ≡ Less) names up.0), rest)

module _ (all values : List GlobalValue) (own : List ℕ → Option GlobalValue) (finds : (name : List ℕ) → own name ≡ value_named values name) (names : List (List ℕ))
    (are : (name : List ℕ) → Contains names name ↔ Contains (flat_map global_names values) name) where
  abbrev declared : List GlobalValue
  declared = filter_map (lacked_as all own) names

  named : (name : List ℕ) (d : GlobalValue) → lacked_as all own name ≡ Some d → name_of d ≡ name
  named name d e = named_so _ name d (lacked_some (own name) (declared_as all name) d e).1

  each : (d : GlobalValue) → Contains declared d → declared_as all (name_of d) ≡ Some d
  each d there =
      let found = found_from (lacked_as all own) names d there in
      let is = (lacked_some (own found.0) (declared_as all found.0) d found.2).1 in
      ap (declared_as all) (named found.0 d found.2) ∙ is

  lacked_so : (name : List ℕ) → Contains (map name_of declared) name → IsLacked values name × (declared_as all name ≢ None)
  lacked_so name there =
      let d = map_from name_of declared name there in
      let found = found_from (lacked_as all own) names d.0 d.1 in
      let same : found.0 ≡ name = sym (named found.0 d.0 found.2) ∙ d.2 in
      let both = lacked_some (own found.0) (declared_as all found.0) d.0 found.2 in
      let user = joined_from global_names values found.0 ((are found.0).0 found.1) in (
        record {
          user = user.0;
          is_there = user.1;
          refers = subst (Contains (global_names user.0)) same user.2;
          lacks = λ has.
              let g = map_from name_of values name has in
              none_named values found.0 (sym (finds found.0) ∙ both.0) g.0 g.1 (g.2 ∙ sym same);
        },
        λ none. let clash : Some d.0 ≡ None = sym both.1 ∙ ap (declared_as all) same ∙ none in cc clash,
      )

  so_lacked : (name : List ℕ) → IsLacked values name → declared_as all name ≢ None → Contains (map name_of declared) name
  so_lacked name l some = by (own name) refl (declared_as all name) refl
    where
      by : (o : Option GlobalValue) → own name ≡ o → (p : Option GlobalValue) → declared_as all name ≡ p → Contains (map name_of declared) name
      by (Some g) is p e =
          let found : value_named values name ≡ Some g = sym (finds name) ∙ is in
          absurd (l.lacks (subst (Contains (map name_of values)) (named_so values name g found) (in_map name_of values g (contained values g (found_stands (λ h. bytes_eq (symbol_of h).name name) values g found)))))
      by None is None e = absurd (some e)
      by None is (Some d) e =
          let got : lacked_as all own name ≡ Some d = ap (λ (o : Option GlobalValue). cond (is_some o) None (declared_as all name)) is ∙ e in
          subst (Contains (map name_of declared)) (named name d got)
          (in_map name_of declared d (in_found (lacked_as all own) names name d ((are name).1 (in_joined global_names values l.user name l.is_there l.refers)) got))

  pub closed_up : NamesRise names → IsClosedUp all values declared
  closed_up up = record {
    rise = found_rise (lacked_as all own) named names up;
    each = all_of (λ (d : GlobalValue). declared_as all (name_of d) ≡ Some d) declared (λ d s. each d (contained declared d s));
    just = λ name. (lacked_so name, λ both. so_lacked name both.0 both.1);
  }
