-- What is emitted may stand in any order, with declarations between, and under any linkage.
use Rattle.std.proofs.Common.{◌≡◌, ◌<◌, ℕ, Bool, true, false, cond, List, [], ◌∷◌, length, Contains, Option, Some, None, slice_get, slice_index_or, refl, sym, ap, ◌∙◌, subst}
use Rattle.std.proofs.lemmas.Option.{get_or_from_slice_get, slice_get_read, slice_get_within}
use Rattle.ir_tree.specs.Linkages.{defines}
use Rattle.ir_tree.specs.Initials.{Initial}
use Rattle.ir_tree.specs.declared.block.Block.{Block}
use Rattle.ir_tree.specs.declared.function.Function.{Function}
use Rattle.ir_tree.specs.declared.function.Variable.{Variable}
use Rattle.ir_tree.specs.declared.module.GlobalValue.{GlobalValue}
use Rattle.ir_tree.specs.declared.module.GlobalValue.TheVariants as global
use Rattle.ir_tree.specs.declared.operand.Symbol.{Symbol}
use Rattle.ir_meaning.specs.Refine.{Naming}
use Rattle.ir_meaning.specs.Programs.{Body, Definition, Storage, body_of, defined, defined_blocks, defined_init, definition_of, storage_of, symbol_of}
use Rattle.merge_meaning.specs.Globals.{named_by}
use Rattle.merge_meaning.specs.Laws.{EmittedInAnyOrder}
use Rattle.merge_meaning.specs.Linked.{IsDefinition, IsLike, IsReordering, IsUnder}
use Rattle.merge_meaning.proofs.Looked.{Found, defined_there, found, looked_up}

-- ---- definitions that are alike

abbrev Like : Option Definition → Option Definition → Type 0
Like None None = Unit {0}
Like (Some (Body f)) (Some (Body g)) = (g.params ≡ f.params) × (g.result ≡ f.result) × (g.blocks ≡ f.blocks)
Like (Some (Storage n v init)) (Some (Storage k w other)) = (w.shape ≡ v.shape) × (w.align ≡ v.align) × (w.constant ≡ v.constant) × (other ≡ init)
Like _ _ = ⊥

bodies_alike : (f g : Function) → IsLike (global.Function f) (global.Function g) → (bs cs : List Block) → cs ≡ bs → Like (body_of bs f) (body_of cs g)
bodies_alike f g h bs cs e = subst (λ (z : List Block). Like (body_of bs f) (body_of z g)) (sym e) (by bs)
  where
    by : (bs : List Block) → Like (body_of bs f) (body_of bs g)
    by [] = tt
    by (b ∷ bs) = (h.1, h.2, h.3)

storages_alike : (n k : ℕ) (v w : Variable) → IsLike (global.Variable v) (global.Variable w) → (i j : Option Initial) → j ≡ i → Like (storage_of i n v) (storage_of j k w)
storages_alike n k v w h i j e = subst (λ (z : Option Initial). Like (storage_of i n v) (storage_of z k w)) (sym e) (by i)
  where
    by : (i : Option Initial) → Like (storage_of i n v) (storage_of i k w)
    by None = tt
    by (Some init) = (h.1, h.2, h.3, refl)

alike : (n k : ℕ) (g h : GlobalValue) → IsLike g h → Like (defined n g) (defined k h)
alike n k (global.Function f) (global.Function g) h =
    subst (λ (c : Bool). Like (body_of (defined_blocks f) f) (body_of (cond c g.blocks []) g)) (sym h.4) (by (defines f.linkage))
  where
    by : (counts : Bool) → Like (body_of (cond counts f.blocks []) f) (body_of (cond counts g.blocks []) g)
    by true = bodies_alike f g h f.blocks g.blocks h.3
    by false = tt
alike n k (global.Variable v) (global.Variable w) h =
    subst (λ (c : Bool). Like (storage_of (defined_init v) n v) (storage_of (cond c w.init None) k w)) (sym h.5) (by (defines v.linkage))
  where
    by : (counts : Bool) → Like (storage_of (cond counts v.init None) n v) (storage_of (cond counts w.init None) k w)
    by true = storages_alike n k v w h v.init w.init h.4
    by false = tt
alike n k (global.Function f) (global.Variable w) h = absurd h
alike n k (global.Variable v) (global.Function g) h = absurd h

symbol_alike : (g h : GlobalValue) → IsLike g h → symbol_of h ≡ symbol_of g
symbol_alike (global.Function f) (global.Function g) h = h.0
symbol_alike (global.Variable v) (global.Variable w) h = h.0
symbol_alike (global.Function f) (global.Variable w) h = absurd h
symbol_alike (global.Variable v) (global.Function g) h = absurd h

none_alike : (d : Option Definition) → Like None d → d ≡ None
none_alike None h = refl
none_alike (Some d) h = absurd h

under_alike : (t : Naming) (d e e' : Option Definition) → IsUnder t d e → Like e e' → IsUnder t d e'
under_alike t None None None h l = tt
under_alike t (Some (Body f)) (Some (Body g)) (Some (Body k)) h l = (l.0 ∙ h.0, l.1 ∙ h.1, l.2 ∙ h.2)
under_alike t (Some (Storage n v i)) (Some (Storage m w j)) (Some (Storage o u k)) h l = (l.0 ∙ h.0, l.1 ∙ h.1, l.2 ∙ h.2, l.3 ∙ h.3)
under_alike t None None (Some e) h l = absurd l
under_alike t None (Some e) e' h l = absurd h
under_alike t (Some (Body f)) None e' h l = absurd h
under_alike t (Some (Body f)) (Some (Storage m w j)) e' h l = absurd h
under_alike t (Some (Body f)) (Some (Body g)) None h l = absurd l
under_alike t (Some (Body f)) (Some (Body g)) (Some (Storage o u k)) h l = absurd l
under_alike t (Some (Storage n v i)) None e' h l = absurd h
under_alike t (Some (Storage n v i)) (Some (Body g)) e' h l = absurd h
under_alike t (Some (Storage n v i)) (Some (Storage m w j)) None h l = absurd l
under_alike t (Some (Storage n v i)) (Some (Storage m w j)) (Some (Body k)) h l = absurd l

-- ---- whether a global value is a definition doesn't depend on its number

pub any_number : (g : GlobalValue) → IsDefinition g → (n : ℕ) → (d : Definition) × (defined n g ≡ Some d)
any_number (global.Function f) is n = by (defined_blocks f) is
  where
    by : (blocks : List Block) → (body_of blocks f ≡ None → ⊥) → (d : Definition) × (body_of blocks f ≡ Some d)
    by [] is = absurd (is refl)
    by (b ∷ bs) is = (Body f, refl)
any_number (global.Variable v) is n = by (defined_init v) is
  where
    by : (init : Option Initial) → (storage_of init 0 v ≡ None → ⊥) → (d : Definition) × (storage_of init n v ≡ Some d)
    by None is = absurd (is refl)
    by (Some init) is = (Storage n v init, refl)

pub is_definition : (g : GlobalValue) (n : ℕ) (d : Definition) → defined n g ≡ Some d → IsDefinition g
is_definition (global.Function f) n d e none = cc (e, none)
is_definition (global.Variable v) n d e none = by (defined_init v) e none
  where
    by : (init : Option Initial) → storage_of init n v ≡ Some d → storage_of init 0 v ≡ None → ⊥
    by None e none = cc e
    by (Some init) e none = cc none

like_defined : (g h : GlobalValue) → IsLike g h → IsDefinition g → IsDefinition h
like_defined g h l is none = is (by (defined 0 g) (defined 0 h) (alike 0 0 g h l) none)
  where
    by : (d e : Option Definition) → Like d e → e ≡ None → d ≡ None
    by None e l n = refl
    by (Some (Body f)) None l n = absurd l
    by (Some (Body f)) (Some e) l n = absurd (cc n)
    by (Some (Storage k v init)) None l n = absurd l
    by (Some (Storage k v init)) (Some e) l n = absurd (cc n)

-- ---- looking up

pub contained : {X : Type 0} (xs : List X) (j : ℕ) (x : X) → j < length xs → slice_index_or xs j x ≡ x → slice_get xs j ≡ Some x
contained xs j x lt e = slice_get_read xs (length xs) j x refl lt (sym e)

pub contains : {X : Type 0} (xs : List X) (j : ℕ) (x : X) → slice_get xs j ≡ Some x → Contains xs x
contains xs j x e = (j, slice_get_within xs j x e, get_or_from_slice_get xs j x x e)

module _ (ls ks : List GlobalValue) (r : IsReordering ls ks) where
  still_defined : (u : Symbol) (d : Definition) (f : Found ls u d) → ((h : GlobalValue) × Contains ks h × IsLike f.g h) → Like (Some d) (definition_of ks u)
  still_defined u d f (h, (j, lt, at), l) =
      let there = looked_up ks r.once j h (contained ks j h lt at) (any_number h (like_defined f.g h l (is_definition f.g f.n d f.is))) 0 in
      let same : definition_of ks u ≡ defined there.0 h = ap (definition_of ks) (sym (symbol_alike f.g h l ∙ f.symbol)) ∙ there.1 in
      subst (λ (x : Option Definition). Like (Some d) x) (sym same)
      (subst (λ (x : Option Definition). Like x (defined there.0 h)) f.is (alike f.n there.0 f.g h l))

  nothing_new : (u : Symbol) (d : Definition) → definition_of ls u ≡ None → (f : Found ks u d) → ((g : GlobalValue) × Contains ls g × IsLike g f.g) → ⊥
  nothing_new u d none f (g, (j, lt, at), l) =
      defined_there ls j g (contained ls j g lt at) (any_number g (back g f.g l (is_definition f.g f.n d f.is))) 0
      (ap (definition_of ls) (sym (symbol_alike g f.g l) ∙ f.symbol) ∙ none)
    where
      back : (g h : GlobalValue) → IsLike g h → IsDefinition h → IsDefinition g
      back g h l is none = is (by (defined 0 g) (defined 0 h) (alike 0 0 g h l) none)
        where
          by : (d e : Option Definition) → Like d e → d ≡ None → e ≡ None
          by None e l n = none_alike e l
          by (Some d) e l n = absurd (cc n)

  same_definition : (u : Symbol) → Like (definition_of ls u) (definition_of ks u)
  same_definition u = by (definition_of ls u) refl
    where
      other : definition_of ls u ≡ None → (e : Option Definition) → definition_of ks u ≡ e → Like None e
      other none None e = tt
      other none (Some d) e =
          let f = found ks 0 u d e in
          absurd (nothing_new u d none f (r.only f.g (contains ks f.j f.g f.at) (is_definition f.g f.n d f.is)))

      by : (o : Option Definition) → definition_of ls u ≡ o → Like o (definition_of ks u)
      by (Some d) e = let f = found ls 0 u d e in still_defined u d f (r.all f.g (contains ls f.j f.g f.at) (is_definition f.g f.n d f.is))
      by None e = other e (definition_of ks u) refl

pub any_order : EmittedInAnyOrder
any_order live final hs ls ks e r = record {
  reached = e.reached;
  named = e.named;
  defines = λ s k. under_alike (named_by final) (definition_of hs s) (definition_of ls (final s)) (definition_of ks (final s)) (e.defines s k) (same_definition ls ks r (final s));
  declares = λ s k. r.declares (final s) (e.declares s k);
  only = λ u none. none_alike (definition_of ks u)
      (subst (λ (d : Option Definition). Like d (definition_of ks u)) (e.only u none) (same_definition ls ks r u));
  once = r.once;
}
