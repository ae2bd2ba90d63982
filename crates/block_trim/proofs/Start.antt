-- Where joins begin, and where they end.
use Rattle.std.proofs.Common.{◌≡◌, ◌≢◌, ℕ, zero, suc, ◌<◌, nat_eq, true, List, [], ◌∷◌, length, map, Option, Some, None, refl, sym, ◌∙◌, ap, subst, arith}
use Rattle.std.specs.Prelude.{◌&&◌, not, is_some, slice_get}
use Rattle.std.specs.HashSet as hash_set
use Rattle.std.proofs.lemmas.Bool.{and_from, eq-eqb, ne_eqb}
use Rattle.ir_tree.specs.Flow.{leading}
use Rattle.ir_tree.specs.Formed.{Distinct, numbers}
use Rattle.ir_tree.specs.declared.block.Block.{Block}
use Rattle.ir_tree.specs.declared.block.Terminator.TheVariants.{Jump}
use Rattle.ir_tree.specs.declared.function.Function.{Function}
use Rattle.ir_tree.specs.declared.instr.Incoming.{Incoming}
use Rattle.ir_tree.specs.declared.instr.Phi.{Phi}
use Rattle.ir_meaning.proofs.Counting.{numbers_in}
use Rattle.block_trim.specs.Merged.{CanJoin, IsOneOf, behind_entry, entry_named, phi_named}
use Rattle.block_trim.specs.Working.{HasContents, IsContentOf, IsNumber, Joined, at_work, blocks_of, can_go, has_one_edge, left, may_go, naming, next, with_block}
use Rattle.block_trim.specs.declared.joining.Content.{Content}
use Rattle.block_trim.specs.declared.joining.Join.{Join}
use Rattle.block_trim.specs.declared.joining.Joining.{Joining}
use Rattle.block_trim.proofs.Left.{Was, entry_stays, may, next_is, was}

-- ---- the start

pub below : {X : Type 0} → (xs : List X) (i : ℕ) (x : X) → slice_get xs i ≡ Some x → i < length xs
below [] i x e = absurd cc
below (y ∷ xs) zero x e = omega arith
below (y ∷ xs) (suc i) x e = let h : i < length xs = below xs i x e in omega (arith, h)

entries_kept : (es : List Incoming) → map (entry_named (λ n. n)) es ≡ es
entries_kept [] = refl
entries_kept (e ∷ es) = ap (λ (l : List Incoming). e ∷ l) (entries_kept es)

phis_kept : (ps : List Phi) → map (phi_named (λ n. n)) ps ≡ ps
phis_kept [] = refl
phis_kept (p ∷ ps) = λ i. record p { incoming = entries_kept p.incoming i } ∷ phis_kept ps i

abbrev Own : (ℕ → Option Content) → List Block → Type 0
Own contents bs = (i : ℕ) (b : Block) → slice_get bs i ≡ Some b → (c : Content) × (contents b.number ≡ Some c) × IsContentOf b c

blocks_kept : (contents : ℕ → Option Content) (bs : List Block) → Own contents bs → blocks_of (λ n. n) contents bs ≡ bs
blocks_kept contents [] h = refl
blocks_kept contents (b ∷ bs) h =
    let own : (c : Content) × (contents b.number ≡ Some c) × IsContentOf b c = h 0 b refl in
    ap (λ (o : Option Content). with_block (λ n. n) b o (blocks_of (λ n. n) contents bs)) own.1
    ∙ (λ i. record { number = b.number; phis = phis_kept b.phis i; lines = own.2.0 i; end = own.2.1 i } ∷ blocks_kept contents bs (λ k c e. h (suc k) c e) i)

pub start : (f : Function) (j : Joining) (bs : List Block) → f.blocks ≡ bs → j.joins.items ≡ [] → HasContents (length bs) bs (left j)
    → ((n : ℕ) → hash_set.contains nat_eq j.candidates n ≡ may_go (has_one_edge bs) (behind_entry bs) n) → Joined f j
start f j bs is none has may' = record {
  joins = (0, λ i. record f { blocks = all i });
  candidates = λ n. may' n ∙ ap (λ (l : List Block). may_go (has_one_edge l) (behind_entry l) n) (sym is);
  known = λ n c e. subst (λ (l : List Block). IsNumber l n) (sym is) (has.known n c e);
  stays = λ b at no. λ e. stays b (subst (λ (l : List Block). IsOneOf l b) is at) e;
  edges = λ n some. ap (λ (l : List Block). length (leading n 0 l)) all;
}
  where
    own : Own (left j) bs
    own i b e = has.each i b (below bs i b e) e

    all : blocks_of (naming j.joins.items) (left j) f.blocks ≡ f.blocks
    all = ap (λ (js : List Join). blocks_of (naming js) (left j) f.blocks) none ∙ ap (blocks_of (λ n. n) (left j)) is ∙ blocks_kept (left j) bs own ∙ sym is

    stays : (b : Block) → IsOneOf bs b → left j b.number ≢ None
    stays b (i, at) e = let mine : (c : Content) × (left j b.number ≡ Some c) × IsContentOf b c = own i b at in let clash : Some mine.0 ≡ None = sym mine.1 ∙ e in absurd (cc clash)

-- ---- the end

no_phis_before : (name : ℕ → ℕ) (ps : List Phi) → map (phi_named name) ps ≡ [] → ps ≡ []
no_phis_before name [] e = refl
no_phis_before name (p ∷ ps) e = absurd cc

module _ (f : Function) (j : Joining) (once : Distinct (numbers f)) (work : Joined f j) where
  abbrev name : ℕ → ℕ
  name = naming j.joins.items

  behind : (bs : List Block) → f.blocks ≡ bs → (y : Block) → IsOneOf (behind_entry (blocks_of name (left j) bs)) y → Was name (left j) (behind_entry bs) y
  behind [] e y (i, at) = absurd cc
  behind (x ∷ bs) e y is = by (left j x.number) refl is
    where
      stays : left j x.number ≢ None
      stays = work.stays x (subst (λ (l : List Block). IsOneOf l x) (sym e) (0, refl))
          (ap (λ (l : List Block). may_go (has_one_edge f.blocks) (behind_entry l) x.number) e ∙ entry_stays (has_one_edge f.blocks) x bs (subst (λ (l : List Block). Distinct (numbers_in l)) e once))

      by : (o : Option Content) → left j x.number ≡ o → IsOneOf (behind_entry (with_block name x o (blocks_of name (left j) bs))) y → Was name (left j) bs y
      by None h is = absurd (stays h)
      by (Some c) h is = was name (left j) bs y is

  -- where a block can take another one, something goes into it
  pub takes : (a y : Block) → CanJoin (at_work j f) a y → next j a.number ≢ None
  takes a y can none = by (was name (left j) f.blocks a can.first) (behind f.blocks refl y can.second)
    where
      by : Was name (left j) f.blocks a → Was name (left j) (behind_entry f.blocks) y → ⊥
      by (b, c, at, e, made) (z, d, z_at, g, z_made) =
          let a_number : a.number ≡ b.number = ap (λ (x : Block). x.number) made in
          let y_number : y.number ≡ z.number = ap (λ (x : Block). x.number) z_made in
          let empty : z.phis ≡ [] = no_phis_before name z.phis (ap (λ (x : Block). x.phis) (sym z_made) ∙ can.no_phis) in
          let some : left j z.number ≢ None = λ h. (let clash : Some d ≡ None = sym g ∙ h in absurd (cc clash)) in
          let one : length (leading z.number 0 f.blocks) ≡ 1 = sym (work.edges z.number some) ∙ ap (λ (n : ℕ). length (leading n 0 (at_work j f).blocks)) (sym y_number) ∙ can.only in
          let may' : may_go (has_one_edge f.blocks) (behind_entry f.blocks) z.number ≡ true = may (has_one_edge f.blocks) (behind_entry f.blocks) z z_at empty (eq-eqb (length (leading z.number 0 f.blocks)) 1 one) in
          let goes : can_go j b.number z.number ≡ true =
          and_from (not (nat_eq z.number b.number) && hash_set.contains nat_eq j.candidates z.number) (is_some (left j z.number))
          (and_from (not (nat_eq z.number b.number)) (hash_set.contains nat_eq j.candidates z.number) (ap not (ne_eqb z.number b.number (λ s. can.other (y_number ∙ s ∙ sym a_number)))) (work.candidates z.number ∙ may'))
          (ap is_some g) in
          let jumps : c.end ≡ Jump z.number = ap (λ (x : Block). x.end) (sym made) ∙ can.jumps ∙ ap Jump y_number in
          let clash : Some z.number ≡ None = sym (next_is (can_go j b.number) (left j b.number) c z.number e jumps goes) ∙ ap (next j) (sym a_number) ∙ none in
          absurd (cc clash)

  pub none_left : ((b : Block) → IsOneOf f.blocks b → next j b.number ≡ None) → (a y : Block) → CanJoin (at_work j f) a y → ⊥
  none_left done a y can = by (was name (left j) f.blocks a can.first)
    where
      by : Was name (left j) f.blocks a → ⊥
      by (b, c, at, e, made) = takes a y can (ap (λ (x : Block). next j x.number) made ∙ done b at)
