-- The blocks of an inlined function: where each of the caller's and the callee's is found.
use Rattle.std.proofs.Common.{◌≡◌, ◌≢◌, ℕ, ◌+◌, ◌<◌, ◌≤◌, Bool, true, false, ◌==◌, if◌then◌else◌, List, [], ◌∷◌, ◌++◌, Some, ◌⊎◌, inl, inr, refl, sym, ap, ◌∙◌, subst, arith}
use Rattle.std.proofs.lemmas.Bool.{cases_eq, ne_eqb, eq-eqb, eqb-true}
use Rattle.ir_tree.specs.declared.block.Block.{Block}
use Rattle.ir_meaning.specs.Act.{find_block}
use Rattle.ir_meaning.specs.Inline.{Site, block_moved, blocks_moved, block_renamed, blocks_renamed, first_part, second_part, inlined_blocks, BlockBelow, BlocksBelow, BlockSparing, BlocksSparing}

-- ---- blocks

pub no_moved : (t : Site) (bs : List Block) (n : ℕ) → n < t.by → (rest : List Block) → find_block (blocks_moved t bs ++ rest) n ≡ find_block
    rest n
no_moved t [] n lt rest = refl
no_moved t (b ∷ bs) n lt rest =
    let ne = ne_eqb (b.number + t.by) n (omega arith) in
    ap (λ (x : Bool). if x then Some (block_moved t b) else find_block (blocks_moved t bs ++ rest) n) ne ∙ no_moved t bs n lt rest

pub no_join : (t : Site) (bs : List Block) → BlocksSparing t bs → (rest : List Block) → find_block (blocks_moved t bs ++ rest)
    t.join ≡ find_block rest t.join
no_join t [] c rest = refl
no_join t (b ∷ bs) c rest =
    let h = c.0.number in
    let ne = ne_eqb (b.number + t.by) t.join (omega arith) in
    ap (λ (x : Bool). if x then Some (block_moved t b) else find_block (blocks_moved t bs ++ rest) t.join) ne ∙ no_join t bs c.1 rest

pub found_moved : (t : Site) (bs : List Block) (n : ℕ) (x : Block) → find_block bs n ≡ Some x → (rest : List Block) →
    find_block (blocks_moved t bs ++ rest) (n + t.by) ≡ Some (block_moved t x)
found_moved t [] n x e rest = absurd (cc e)
found_moved t (b ∷ bs) n x e rest = by (cases_eq b.number n) e (λ e'. found_moved t bs n x e' rest)
  where
    by : (b.number ≡ n) ⊎ (b.number ≡ n → ⊥) → (if b.number == n then Some b else find_block bs n) ≡ Some x →
        (find_block bs n ≡ Some x → find_block (blocks_moved t bs ++ rest) (n + t.by) ≡ Some (block_moved t x)) →
        (if (b.number + t.by) == (n + t.by) then Some (block_moved t b) else find_block (blocks_moved t bs ++ rest) (n + t.by)) ≡ Some
        (block_moved t x)
    by (inl same) e' go =
        let yes' = eq-eqb b.number n same in
        let yes'' = eq-eqb (b.number + t.by) (n + t.by) (omega arith) in
        let is : Some b ≡ Some x = sym (ap (λ (v : Bool). if v then Some b else find_block bs n) yes') ∙ e' in
        let is' : b ≡ x = cc is in
        ap (λ (v : Bool). if v then Some (block_moved t b) else find_block (blocks_moved t bs ++ rest) (n + t.by)) yes''
        ∙ ap (λ (y : Block). Some (block_moved t y)) is'
    by (inr other) e' go =
        let no' = ne_eqb b.number n other in
        let no'' = ne_eqb (b.number + t.by) (n + t.by) (λ s. other (omega (arith, s))) in
        ap (λ (v : Bool). if v then Some (block_moved t b) else find_block (blocks_moved t bs ++ rest) (n + t.by)) no''
        ∙ go (sym (ap (λ (v : Bool). if v then Some b else find_block bs n) no') ∙ e')

-- the number of a block that is found, and what is known of it
pub found_below : (n : ℕ) (bs : List Block) → BlocksBelow n bs → (k : ℕ) (x : Block) → find_block bs k ≡ Some x → (x.number ≡ k) ×
    BlockBelow n x
found_below n [] c k x e = absurd (cc e)
found_below n (b ∷ bs) c k x e = by (cases_eq b.number k) e (λ e'. found_below n bs c.1 k x e')
  where
    by : (b.number ≡ k) ⊎ (b.number ≡ k → ⊥) → (if b.number == k then Some b else find_block bs k) ≡ Some x →
        (find_block bs k ≡ Some x → (x.number ≡ k) × BlockBelow n x) → (x.number ≡ k) × BlockBelow n x
    by (inl same) e' go =
        let yes' = eq-eqb b.number k same in
        let is : Some b ≡ Some x = sym (ap (λ (v : Bool). if v then Some b else find_block bs k) yes') ∙ e' in
        let is' : b ≡ x = cc is in
        (ap (λ (y : Block). y.number) (sym is') ∙ same, subst (λ (y : Block). BlockBelow n y) is' c.0)
    by (inr other) e' go = go (sym (ap (λ (v : Bool). if v then Some b else find_block bs k) (ne_eqb b.number k other)) ∙ e')

pub found_sparing : (t : Site) (bs : List Block) → BlocksSparing t bs → (k : ℕ) (x : Block) → find_block bs k ≡ Some x → (x.number ≡ k) ×
    BlockSparing t x
found_sparing t [] c k x e = absurd (cc e)
found_sparing t (b ∷ bs) c k x e = by (cases_eq b.number k) e (λ e'. found_sparing t bs c.1 k x e')
  where
    by : (b.number ≡ k) ⊎ (b.number ≡ k → ⊥) → (if b.number == k then Some b else find_block bs k) ≡ Some x →
        (find_block bs k ≡ Some x → (x.number ≡ k) × BlockSparing t x) → (x.number ≡ k) × BlockSparing t x
    by (inl same) e' go =
        let yes' = eq-eqb b.number k same in
        let is : Some b ≡ Some x = sym (ap (λ (v : Bool). if v then Some b else find_block bs k) yes') ∙ e' in
        let is' : b ≡ x = cc is in
        (ap (λ (y : Block). y.number) (sym is') ∙ same, subst (λ (y : Block). BlockSparing t y) is' c.0)
    by (inr other) e' go = go (sym (ap (λ (v : Bool). if v then Some b else find_block bs k) (ne_eqb b.number k other)) ∙ e')

pub found_renamed : (t : Site) (bs : List Block) (k : ℕ) (x : Block) → find_block bs k ≡ Some x → find_block (blocks_renamed t bs) k ≡ Some
    (block_renamed t x)
found_renamed t [] k x e = absurd (cc e)
found_renamed t (b ∷ bs) k x e = by (b.number == k) e (λ e'. found_renamed t bs k x e')
  where
    by : (v : Bool) → (if v then Some b else find_block bs k) ≡ Some x →
        (find_block bs k ≡ Some x → find_block (blocks_renamed t bs) k ≡ Some (block_renamed t x)) →
        (if v then Some (block_renamed t b) else find_block (blocks_renamed t bs) k) ≡ Some (block_renamed t x)
    by true e' go = let is : b ≡ x = cc e' in ap (λ (y : Block). Some (block_renamed t y)) is
    by false e' go = go e'

-- the block of the call, in the caller with the callee in it
pub found_first : (t : Site) (bs : List Block) (x : Block) → find_block bs t.block ≡ Some x → find_block (inlined_blocks t bs) t.block ≡ Some
    (first_part t x)
found_first t [] x e = absurd (cc e)
found_first t (b ∷ bs) x e = by (b.number == t.block) refl e (λ e'. found_first t bs x e')
  where
    by : (v : Bool) → (b.number == t.block) ≡ v → (if v then Some b else find_block bs t.block) ≡ Some x →
        (find_block bs t.block ≡ Some x → find_block (inlined_blocks t bs) t.block ≡ Some (first_part t x)) →
        find_block (if v then first_part t b ∷ (blocks_moved t t.body.blocks ++ second_part t b ∷ blocks_renamed t bs) else block_renamed t
        b ∷ inlined_blocks t bs) t.block ≡ Some (first_part t x)
    by true q e' go =
        let is : b ≡ x = cc e' in
        ap (λ (v : Bool). if v then Some (first_part t b) else find_block (blocks_moved t t.body.blocks ++ second_part t b ∷ blocks_renamed
        t bs) t.block) q ∙ ap (λ (y : Block). Some (first_part t y)) is
    by false q e' go = ap (λ (v : Bool). if v then Some (block_renamed t b) else find_block (inlined_blocks t bs) t.block) q ∙ go e'

-- another block of the caller
pub found_other : (t : Site) (bs : List Block) → t.by ≤ t.join → (k : ℕ) (x : Block) → k < t.by → k ≢ t.block → find_block bs k ≡ Some x →
    find_block (inlined_blocks t bs) k ≡ Some (block_renamed t x)
found_other t [] j k x lt ne e = absurd (cc e)
found_other t (b ∷ bs) j k x lt ne e = by (b.number == t.block) refl (cases_eq b.number k) e (λ e'. found_other t bs j k x lt ne e')
  where
    rest : (b.number ≡ k → ⊥) → (if b.number == k then Some b else find_block bs k) ≡ Some x → find_block bs k ≡ Some x
    rest other e' = sym (ap (λ (v : Bool). if v then Some b else find_block bs k) (ne_eqb b.number k other)) ∙ e'

    by : (v : Bool) → (b.number == t.block) ≡ v → (b.number ≡ k) ⊎ (b.number ≡ k → ⊥) →
        (if b.number == k then Some b else find_block bs k) ≡ Some x →
        (find_block bs k ≡ Some x → find_block (inlined_blocks t bs) k ≡ Some (block_renamed t x)) →
        find_block (if v then first_part t b ∷ (blocks_moved t t.body.blocks ++ second_part t b ∷ blocks_renamed t bs) else block_renamed t
        b ∷ inlined_blocks t bs) k ≡ Some (block_renamed t x)
    by true q c e' go =
        let at = eqb-true b.number t.block q in
        let other : b.number ≡ k → ⊥ = λ s. ne (sym s ∙ at) in
        let no1 = ne_eqb b.number k other in
        let no2 = ne_eqb t.join k (omega arith) in
        ap (λ (v : Bool). if v then Some (first_part t b) else find_block (blocks_moved t t.body.blocks ++ second_part t b ∷ blocks_renamed
        t bs) k) no1
        ∙ no_moved t t.body.blocks k lt (second_part t b ∷ blocks_renamed t bs)
        ∙ ap (λ (v : Bool). if v then Some (second_part t b) else find_block (blocks_renamed t bs) k) no2
        ∙ found_renamed t bs k x (rest other e')
    by false q (inl same) e' go =
        let yes' = eq-eqb b.number k same in
        let is : Some b ≡ Some x = sym (ap (λ (v : Bool). if v then Some b else find_block bs k) yes') ∙ e' in
        let is' : b ≡ x = cc is in
        ap (λ (v : Bool). if v then Some (block_renamed t b) else find_block (inlined_blocks t bs) k) yes'
        ∙ ap (λ (y : Block). Some (block_renamed t y)) is'
    by false q (inr other) e' go =
        ap (λ (v : Bool). if v then Some (block_renamed t b) else find_block (inlined_blocks t bs) k) (ne_eqb b.number k other)
        ∙ go (rest other e')

-- a block of the callee, where the block of the call is there
pub found_inside : (t : Site) (bs : List Block) (c : Block) → BlocksBelow t.by bs → find_block bs t.block ≡ Some c → (k : ℕ) (x : Block) →
    find_block t.body.blocks k ≡ Some x → find_block (inlined_blocks t bs) (k + t.by) ≡ Some (block_moved t x)
found_inside t [] c low e k x f = absurd (cc e)
found_inside t (b ∷ bs) c low e k x f = by (b.number == t.block) refl e (λ e'. found_inside t bs c low.1 e' k x f)
  where
    small : b.number < t.by
    small = low.0.number

    by : (v : Bool) → (b.number == t.block) ≡ v → (if v then Some b else find_block bs t.block) ≡ Some c →
        (find_block bs t.block ≡ Some c → find_block (inlined_blocks t bs) (k + t.by) ≡ Some (block_moved t x)) →
        find_block (if v then first_part t b ∷ (blocks_moved t t.body.blocks ++ second_part t b ∷ blocks_renamed t bs) else block_renamed t
        b ∷ inlined_blocks t bs) (k + t.by) ≡ Some (block_moved t x)
    by true q e' go =
        ap (λ (v : Bool). if v then Some (first_part t b) else find_block (blocks_moved t t.body.blocks ++ second_part t b ∷ blocks_renamed
        t bs) (k + t.by)) (ne_eqb b.number (k + t.by) (omega (arith, small)))
        ∙ found_moved t t.body.blocks k x f (second_part t b ∷ blocks_renamed t bs)
    by false q e' go =
        ap (λ (v : Bool). if v then Some (block_renamed t b) else find_block (inlined_blocks t bs) (k + t.by))
        (ne_eqb b.number (k + t.by) (omega (arith, small))) ∙ go e'

pub found_join : (t : Site) (bs : List Block) (c : Block) → BlocksBelow t.by bs → BlocksSparing t t.body.blocks → t.by ≤ t.join →
    find_block bs t.block ≡ Some c → find_block (inlined_blocks t bs) t.join ≡ Some (second_part t c)
found_join t [] c low sp j e = absurd (cc e)
found_join t (b ∷ bs) c low sp j e = by (b.number == t.block) refl e (λ e'. found_join t bs c low.1 sp j e')
  where
    small : b.number < t.by
    small = low.0.number

    by : (v : Bool) → (b.number == t.block) ≡ v → (if v then Some b else find_block bs t.block) ≡ Some c →
        (find_block bs t.block ≡ Some c → find_block (inlined_blocks t bs) t.join ≡ Some (second_part t c)) →
        find_block (if v then first_part t b ∷ (blocks_moved t t.body.blocks ++ second_part t b ∷ blocks_renamed t bs) else block_renamed t
        b ∷ inlined_blocks t bs) t.join ≡ Some (second_part t c)
    by true q e' go =
        let is : b ≡ c = cc e' in
        ap (λ (v : Bool). if v then Some (first_part t b) else find_block (blocks_moved t t.body.blocks ++ second_part t b ∷ blocks_renamed
        t bs) t.join) (ne_eqb b.number t.join (omega (arith, small)))
        ∙ no_join t t.body.blocks sp (second_part t b ∷ blocks_renamed t bs)
        ∙ ap (λ (v : Bool). if v then Some (second_part t b) else find_block (blocks_renamed t bs) t.join) (eq-eqb t.join t.join refl)
        ∙ ap (λ (y : Block). Some (second_part t y)) is
    by false q e' go =
        ap (λ (v : Bool). if v then Some (block_renamed t b) else find_block (inlined_blocks t bs) t.join)
        (ne_eqb b.number t.join (omega (arith, small))) ∙ go e'
