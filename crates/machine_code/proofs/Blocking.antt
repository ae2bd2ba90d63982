-- The blocks of a function, one after another.
use Rattle.std.proofs.Common.{◌≡◌, ◌⊎◌, ℕ, zero, suc, ◌+◌, ◌<◌, List, [], ◌∷◌, ◌++◌, length, get_or, slice_get, Some, refl, sym, ap, subst, ◌∙◌, arith}
use Rattle.std.proofs.lemmas.List.{length-append}
use Rattle.std.proofs.Common.{inl, inr}
use Rattle.ir_tree.specs.declared.block.Block.{Block as MeantBlock}
use Rattle.ir_meaning.specs.Program.{counted}
use Rattle.ir_interp.specs.Code.{counted_before}
use Rattle.ir_interp.specs.declared.code.Block.{Block}
use Rattle.machine_code.specs.Blocks.{AreBlocksFor, IsBlockFor}
use Rattle.machine_code.specs.declared.addresses.Addresses.{Addresses}
use Rattle.machine_code.proofs.Lists.{got_pushed, read_got}

pub no_blocks : (t : Addresses) (blocks : List MeantBlock) (cs : List Block) → cs ≡ [] → AreBlocksFor t blocks cs
no_blocks t blocks cs e q b c f g = absurd (none q (ap (λ (ds : List Block). slice_get ds q) (sym e) ∙ g)) where
  none : (k : ℕ) → slice_get [] k ≡ Some c → ⊥
  none zero h = cc h
  none (suc k) h = cc h

pub one_block : (t : Addresses) (blocks : List MeantBlock) (cs ds : List Block) (i : ℕ) (b : MeantBlock) (c : Block) (before : ℕ) → i < length blocks → b ≡ get_or blocks i b → length cs ≡ i →
    before ≡ counted_before blocks i → IsBlockFor t blocks before b c → AreBlocksFor t blocks cs → ds ≡ cs ++ c ∷ [] → AreBlocksFor t blocks ds
one_block t blocks cs ds i b c before l e len n h rest f q x y gx gy = by (got_pushed cs c q y (ap (λ (zs : List Block). slice_get zs q) (sym f) ∙ gy)) where
  by : (slice_get cs q ≡ Some y) ⊎ ((q ≡ length cs) × (c ≡ y)) → IsBlockFor t blocks (counted_before blocks q) x y
  by (inl g) = rest q x y gx g
  by (inr g) =
      let place : i ≡ q = sym len ∙ sym g.0 in
      let here : slice_get blocks q ≡ Some b = ap (λ (k : ℕ). slice_get blocks k) (sym place) ∙ read_got blocks i b l e in
      let both : Some b ≡ Some x = sym here ∙ gx in
      let same : b ≡ x = cc both in
      subst (λ (z : Block). IsBlockFor t blocks (counted_before blocks q) x z) g.1
      (subst (λ (z : MeantBlock). IsBlockFor t blocks (counted_before blocks q) z c) same
      (subst (λ (k : ℕ). IsBlockFor t blocks k b c) (n ∙ ap (λ (k : ℕ). counted_before blocks k) place) h))

pub none_counted : (blocks : List MeantBlock) → counted_before blocks 0 ≡ 0
none_counted [] = refl
none_counted (b ∷ bs) = refl

pub counted_next : (blocks : List MeantBlock) (i : ℕ) (b : MeantBlock) → i < length blocks → b ≡ get_or blocks i b → counted_before blocks (i + 1) ≡ counted_before blocks i + counted b
counted_next blocks i b l e = ap (λ (k : ℕ). counted_before blocks k) one ∙ next blocks i b l e where
  one : i + 1 ≡ suc i
  one = omega arith

  next : (bs : List MeantBlock) (k : ℕ) (d : MeantBlock) → k < length bs → d ≡ get_or bs k d → counted_before bs (suc k) ≡ counted_before bs k + counted d
  next [] k d h f = absurd (omega (arith, h))
  next (a ∷ bs) zero d h f =
      let same : d ≡ a = f in
      ap (λ (z : ℕ). counted a + z) (none_counted bs) ∙ plus (counted a) ∙ ap (λ (z : MeantBlock). 0 + counted z) (sym same) where
        plus : (n : ℕ) → n + 0 ≡ 0 + n
        plus n = omega arith
  next (a ∷ bs) (suc k) d h f =
      let rest = next bs k d (omega (arith, h)) f in
      omega (arith, rest)

pub long_pushed : (cs ds : List Block) (c : Block) (i : ℕ) → length cs ≡ i → ds ≡ cs ++ c ∷ [] → length ds ≡ i + 1
long_pushed cs ds c i e f = ap (λ (zs : List Block). length zs) f ∙ length-append cs (c ∷ []) ∙ ap (λ (n : ℕ). n + 1) e
