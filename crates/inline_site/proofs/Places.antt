-- The function that inlining gives, block by block: where the blocks of the caller and of the callee stand in it.
use Rattle.std.proofs.Common.{◌≡◌, ℕ, zero, suc, ◌+◌, ◌<◌, ◌≤◌, nat_eq, ◌⊎◌, inl, inr, Bool, true, if◌then◌else◌, List, [], ◌∷◌, ◌++◌, Option, Some, None, map, option_map, length, take, refl, sym, ◌∙◌, ap, subst, arith}
use Rattle.std.specs.Prelude.{slice_get}
use Rattle.std.specs.List.{cons_option}
use Rattle.std.proofs.lemmas.Bool.{eqb-true, eq-eqb, ne_eqb, or_cases, or_left}
use Rattle.std.proofs.lemmas.List.{length-map}
use Rattle.std.proofs.lemmas.Option.{slice_get_within}
use Rattle.ir_tree.specs.Flow.{definitions, holds, phi_locals, results}
use Rattle.ir_tree.specs.Rules.{Sound, place}
use Rattle.ir_tree.specs.declared.block.Block.{Block}
use Rattle.ir_tree.specs.declared.block.Terminator.TheVariants.{Jump}
use Rattle.ir_tree.specs.declared.function.Function.{Function}
use Rattle.ir_tree.specs.declared.instr.Incoming.{Incoming}
use Rattle.ir_tree.specs.declared.instr.Line.{Line}
use Rattle.ir_tree.specs.declared.instr.Phi.{Phi}
use Rattle.ir_tree.specs.declared.operand.Argument.{Argument}
use Rattle.ir_tree.specs.declared.operand.Operand.{Operand}
use Rattle.ir_tree.specs.declared.operand.Operand.TheVariants.{Local, Poison}
use Rattle.ir_tree.specs.declared.operand.Reg.{Reg}
use Rattle.ir_tree.specs.Edited.{block_edited, end_edited, incoming_edited, line_edited}
use Rattle.ir_meaning.proofs.Counting.{place_is}
use Rattle.ir_meaning.proofs.Entries.{apart}
use Rattle.inline_site.specs.Copies.{behind_call, copied_number, copied_operand, first_free}
use Rattle.inline_site.specs.Inlined.{block_named, entry_of, leading_to, result_phis, return_entries}
use Rattle.inline_site.specs.Sites.{IsCallOf, Site}
use Rattle.inline_site.proofs.EditedItems.{IsConstant}
use Rattle.inline_site.proofs.Elements.{Apart, Changed, apart_at, at_back, at_changed, at_front, changed}
use Rattle.inline_site.proofs.Numbered.{holds_back, holds_either, holds_front}

-- the callee's blocks with their returns, and each operand changed once more
abbrev pub copied_with : (Operand → Operand) → Function → Function → List Argument → List Block
copied_with op f callee as' = map (block_edited (copied_number (first_free f) callee) (λ o. op (copied_operand (first_free f) callee as' o))) callee.blocks

-- the phi of the call's result, where there is one
abbrev pub result_of : (Operand → Operand) → Function → Function → Site → List Argument → List Phi
result_of op f callee s as' = result_phis s.call.local callee.result (return_entries (copied_with op f callee as'))

-- a local that still has its definition, and a result that no return gives
abbrev pub Stays : (Operand → Operand) → Option ℕ → List Phi → ℕ → Type 0
Stays op local phis y = (op (Local y) ≡ Local y) × (local ≡ Some y → phis ≡ [] → ⊥)

abbrev pub Goes : (Operand → Operand) → Option ℕ → Option Reg → ℕ → Type 0
Goes op local result y = (r : Reg) × (op (Local y) ≡ Poison r) × (local ≡ Some y) × (result ≡ Some r)

-- a call in a sound function of a sound callee, and the change of what is read that is left to make: none, or poison for the result
pub record Inlining : Type 0 where
  pub f : Function
  pub callee : Function
  pub s : Site
  pub arguments : List Argument
  pub op : Operand → Operand
  pub sound : Sound f
  pub sound' : Sound callee
  pub blocks : f.blocks ≡ s.front ++ s.block ∷ s.back
  pub lines : s.block.lines ≡ s.before ++ s.call ∷ s.after
  pub call : IsCallOf callee s.call.instr arguments
  pub some : callee.blocks ≡ [] → ⊥
  pub fixed : (o : Operand) → IsConstant o → op o ≡ o
  pub locals : (y : ℕ) → Stays op s.call.local (result_of op f callee s arguments) y ⊎ Goes op s.call.local callee.result y

-- ---- lists

pub results_both : (xs ys : List Line) → results (xs ++ ys) ≡ results xs ++ results ys
results_both [] ys = refl
results_both (l ∷ xs) ys = ap (cons_option l.local) (results_both xs ys) ∙ by l.local
  where
    by : (o : Option ℕ) → cons_option o (results xs ++ results ys) ≡ cons_option o (results xs) ++ results ys
    by None = refl
    by (Some x) = refl

pub results_same : (op : Operand → Operand) (ls : List Line) → results (map (line_edited (λ x. x) op) ls) ≡ results ls
results_same op [] = refl
results_same op (l ∷ ls) = by l.local ∙ ap (cons_option l.local) (results_same op ls)
  where
    by : (o : Option ℕ) → cons_option (option_map (λ x. x) o) (results (map (line_edited (λ x. x) op) ls)) ≡ cons_option o (results (map (line_edited (λ x. x) op) ls))
    by None = refl
    by (Some x) = refl

pub take_past : {X : Type 0} (xs ys : List X) (k : ℕ) → take (length xs + k) (xs ++ ys) ≡ xs ++ take k ys
take_past {X} [] ys k = let e : length {A = X} [] + k ≡ k = omega arith in ap (λ (n : ℕ). take n ys) e
take_past {X} (x ∷ xs) ys k =
    let e : length (x ∷ xs) + k ≡ suc (length xs + k) = omega arith in
    ap (λ (n : ℕ). take n (x ∷ (xs ++ ys))) e ∙ ap (λ (l : List X). x ∷ l) (take_past xs ys k)

pub take_within : {X : Type 0} (xs ys : List X) (k : ℕ) → k ≤ length xs → take k (xs ++ ys) ≡ take k xs
take_within {X} [] ys zero lt = refl
take_within {X} [] ys (suc k) lt = absurd (omega (arith, lt))
take_within {X} (x ∷ xs) ys zero lt = refl
take_within {X} (x ∷ xs) ys (suc k) lt = ap (λ (l : List X). x ∷ l) (take_within xs ys k (omega (arith, lt)))

result_there : (y : ℕ) (l : Option ℕ) (r : Option Reg) (es : List Incoming) → l ≡ Some y → (result_phis l r es ≡ [] → ⊥) → holds (map (λ p. p.local) (result_phis l r es)) y ≡ true
result_there y None r es e some = absurd cc
result_there y (Some x) None es e some = absurd (some refl)
result_there y (Some x) (Some reg) [] e some = absurd (some refl)
result_there y (Some x) (Some reg) (a ∷ es) e some = or_left (nat_eq y x) (holds [] y) (eq-eqb y x (sym (cc e)))

module _ (z : Inlining) where
  -- ---- the blocks

  abbrev pub new : ℕ → ℕ
  new = copied_number (first_free z.f) z.callee

  abbrev pub behind : ℕ
  behind = behind_call (first_free z.f) z.callee

  -- the operand that the copy has
  abbrev pub inner_op : Operand → Operand
  inner_op = λ o. z.op (copied_operand (first_free z.f) z.callee z.arguments o)

  abbrev pub outer_phi : Phi → Phi
  outer_phi p = record { local = p.local; reg = p.reg; incoming = map (incoming_edited (block_named z.s.block.number behind) z.op) p.incoming }

  abbrev pub outer_lines : List Line → List Line
  outer_lines ls = map (line_edited (λ x. x) z.op) ls

  -- a block of the caller but that of the call
  abbrev pub outer : Block → Block
  outer b = record { number = b.number; phis = map outer_phi b.phis; lines = outer_lines b.lines; end = end_edited (λ x. x) z.op b.end }

  abbrev pub result_phi : List Phi
  result_phi = result_of z.op z.f z.callee z.s z.arguments

  -- the two halves of the block of the call
  abbrev pub first : Block
  first = record { number = z.s.block.number; phis = map outer_phi z.s.block.phis; lines = outer_lines z.s.before; end = Jump (entry_of (copied_with z.op z.f z.callee z.arguments)) }

  abbrev pub second : Block
  second = record { number = behind; phis = result_phi; lines = outer_lines z.s.after; end = end_edited (λ x. x) z.op z.s.block.end }

  -- a block of the callee
  abbrev pub inner : Block → Block
  inner c = leading_to behind (block_edited new inner_op c)

  abbrev pub rest : List Block
  rest = map inner z.callee.blocks ++ second ∷ map outer z.s.back

  abbrev pub made : Function
  made = record z.f { blocks = map outer z.s.front ++ first ∷ rest }

  abbrev pub n : ℕ
  n = length z.s.front

  abbrev pub m : ℕ
  m = length z.callee.blocks

  -- ---- what stands at a place

  abbrev pub InFront : ℕ → Block → Type 0
  InFront q c = (b : Block) × (slice_get z.s.front q ≡ Some b) × (c ≡ outer b)

  abbrev pub IsFirst : ℕ → Block → Type 0
  IsFirst q c = (q ≡ n) × (c ≡ first)

  abbrev pub InCopy : ℕ → Block → Type 0
  InCopy q c = (j : ℕ) × (d : Block) × (q ≡ n + suc j) × (slice_get z.callee.blocks j ≡ Some d) × (c ≡ inner d)

  abbrev pub IsSecond : ℕ → Block → Type 0
  IsSecond q c = (q ≡ n + suc m) × (c ≡ second)

  abbrev pub InBack : ℕ → Block → Type 0
  InBack q c = (k : ℕ) × (b : Block) × (q ≡ n + suc (m + suc k)) × (slice_get z.s.back k ≡ Some b) × (c ≡ outer b)

  abbrev pub Stands : ℕ → Block → Type 0
  Stands q c = InFront q c ⊎ (IsFirst q c ⊎ (InCopy q c ⊎ (IsSecond q c ⊎ InBack q c)))

  last_ones : (q k : ℕ) (c : Block) → q ≡ n + suc (m + k) → slice_get (second ∷ map outer z.s.back) k ≡ Some c → IsSecond q c ⊎ InBack q c
  last_ones q zero c is at = inl (omega (arith, is), sym (cc at))
  last_ones q (suc k) c is at = by (changed outer z.s.back k c at)
    where
      by : Changed outer z.s.back k c → IsSecond q c ⊎ InBack q c
      by (b, at_b, b_is) = inr (k, b, is, at_b, sym b_is)

  behind_first : (q k : ℕ) (c : Block) → q ≡ n + suc k → slice_get rest k ≡ Some c → InCopy q c ⊎ (IsSecond q c ⊎ InBack q c)
  behind_first q k c is at = by (apart_at (map inner z.callee.blocks) (second ∷ map outer z.s.back) k c at)
    where
      copy : Changed inner z.callee.blocks k c → InCopy q c
      copy (d, at_d, d_is) = (k, d, is, at_d, sym d_is)

      by : Apart (map inner z.callee.blocks) (second ∷ map outer z.s.back) k c → InCopy q c ⊎ (IsSecond q c ⊎ InBack q c)
      by (inl h) = inl (copy (changed inner z.callee.blocks k c h))
      by (inr (l, l_is, h)) = inr (last_ones q l c (let many : length (map inner z.callee.blocks) ≡ m = length-map z.callee.blocks inner in omega (arith, is, l_is, many)) h)

  pub standing : (q : ℕ) (c : Block) → slice_get made.blocks q ≡ Some c → Stands q c
  standing q c at = by (apart_at (map outer z.s.front) (first ∷ rest) q c at)
    where
      front : Changed outer z.s.front q c → InFront q c
      front (b, at_b, b_is) = (b, at_b, sym b_is)

      many : length (map outer z.s.front) ≡ n
      many = length-map z.s.front outer

      behind_front : (k : ℕ) → q ≡ length (map outer z.s.front) + k → slice_get (first ∷ rest) k ≡ Some c → Stands q c
      behind_front zero is h = inr (inl (omega (arith, is, many), sym (cc h)))
      behind_front (suc k) is h = inr (inr (behind_first q k c (omega (arith, is, many)) h))

      by : Apart (map outer z.s.front) (first ∷ rest) q c → Stands q c
      by (inl h) = inl (front (changed outer z.s.front q c h))
      by (inr (k, is, h)) = behind_front k is h

  after_front : (k : ℕ) → slice_get made.blocks (n + k) ≡ slice_get (first ∷ rest) k
  after_front k = ap (λ (l : ℕ). slice_get made.blocks (l + k)) (sym (length-map z.s.front outer)) ∙ at_back (map outer z.s.front) (first ∷ rest) k

  after_copy : (k : ℕ) → slice_get rest (m + k) ≡ slice_get (second ∷ map outer z.s.back) k
  after_copy k = ap (λ (l : ℕ). slice_get rest (l + k)) (sym (length-map z.callee.blocks inner)) ∙ at_back (map inner z.callee.blocks) (second ∷ map outer z.s.back) k

  pub front_at : (i : ℕ) (b : Block) → slice_get z.s.front i ≡ Some b → slice_get made.blocks i ≡ Some (outer b)
  front_at i b at = at_front (map outer z.s.front) (first ∷ rest) i (outer b) (at_changed outer z.s.front i b at)

  pub first_at : slice_get made.blocks n ≡ Some first
  first_at = let e : n ≡ n + 0 = omega arith in ap (slice_get made.blocks) e ∙ after_front 0

  pub copy_at : (j : ℕ) (d : Block) → slice_get z.callee.blocks j ≡ Some d → slice_get made.blocks (n + suc j) ≡ Some (inner d)
  copy_at j d at = after_front (suc j) ∙ at_front (map inner z.callee.blocks) (second ∷ map outer z.s.back) j (inner d) (at_changed inner z.callee.blocks j d at)

  pub second_at : slice_get made.blocks (n + suc m) ≡ Some second
  second_at = let e : m ≡ m + 0 = omega arith in after_front (suc m) ∙ ap (slice_get rest) e ∙ after_copy 0

  pub back_at : (k : ℕ) (b : Block) → slice_get z.s.back k ≡ Some b → slice_get made.blocks (n + suc (m + suc k)) ≡ Some (outer b)
  back_at k b at = after_front (suc (m + suc k)) ∙ after_copy (suc k) ∙ at_changed outer z.s.back k b at

  -- ---- the caller's blocks

  abbrev pub StoodFront : ℕ → Block → Type 0
  StoodFront i b = slice_get z.s.front i ≡ Some b

  abbrev pub StoodHere : ℕ → Block → Type 0
  StoodHere i b = (i ≡ n) × (b ≡ z.s.block)

  abbrev pub StoodBack : ℕ → Block → Type 0
  StoodBack i b = (k : ℕ) × (i ≡ n + suc k) × (slice_get z.s.back k ≡ Some b)

  abbrev pub Stood : ℕ → Block → Type 0
  Stood i b = StoodFront i b ⊎ (StoodHere i b ⊎ StoodBack i b)

  pub stood : (i : ℕ) (b : Block) → slice_get z.f.blocks i ≡ Some b → Stood i b
  stood i b at = by (apart_at z.s.front (z.s.block ∷ z.s.back) i b (subst (λ (bs : List Block). slice_get bs i ≡ Some b) z.blocks at))
    where
      behind_front : (k : ℕ) → i ≡ n + k → slice_get (z.s.block ∷ z.s.back) k ≡ Some b → StoodHere i b ⊎ StoodBack i b
      behind_front zero is h = inl (omega (arith, is), sym (cc h))
      behind_front (suc k) is h = inr (k, is, h)

      by : Apart z.s.front (z.s.block ∷ z.s.back) i b → Stood i b
      by (inl h) = inl h
      by (inr (k, is, h)) = inr (behind_front k is h)

  pub was_front : (i : ℕ) (b : Block) → slice_get z.s.front i ≡ Some b → slice_get z.f.blocks i ≡ Some b
  was_front i b at = subst (λ (bs : List Block). slice_get bs i ≡ Some b) (sym z.blocks) (at_front z.s.front (z.s.block ∷ z.s.back) i b at)

  was_behind : (k : ℕ) → slice_get z.f.blocks (n + k) ≡ slice_get (z.s.block ∷ z.s.back) k
  was_behind k = ap (λ (bs : List Block). slice_get bs (n + k)) z.blocks ∙ at_back z.s.front (z.s.block ∷ z.s.back) k

  pub was_here : slice_get z.f.blocks n ≡ Some z.s.block
  was_here = let e : n ≡ n + 0 = omega arith in ap (slice_get z.f.blocks) e ∙ was_behind 0

  pub was_back : (k : ℕ) (b : Block) → slice_get z.s.back k ≡ Some b → slice_get z.f.blocks (n + suc k) ≡ Some b
  was_back k b at = was_behind (suc k) ∙ at

  other_number : (i : ℕ) (b : Block) → slice_get z.f.blocks i ≡ Some b → (i ≡ n → ⊥) → b.number ≡ block_named z.s.block.number behind b.number
  other_number i b at other =
      sym (ap (λ (t : Bool). if t then behind else b.number) (ne_eqb b.number z.s.block.number (λ same.
      other (sym (place_is z.f.blocks (apart z.f z.sound.formed) i b at) ∙ ap (place z.f.blocks) same ∙ place_is z.f.blocks (apart z.f z.sound.formed) n z.s.block was_here))))

  -- ---- where its blocks begin, and where they end

  pub record Starts (i : ℕ) (b : Block) (q : ℕ) (c : Block) : Type 0 where
    pub old : slice_get z.f.blocks i ≡ Some b
    pub now : slice_get made.blocks q ≡ Some c
    pub moved : ((q ≡ i) × (i ≤ n)) ⊎ ((q ≡ i + suc m) × (n < i))
    pub number : c.number ≡ b.number
    pub phis : c.phis ≡ map outer_phi b.phis

  pub record Finishes (i : ℕ) (b : Block) (q : ℕ) (c : Block) : Type 0 where
    pub old : slice_get z.f.blocks i ≡ Some b
    pub now : slice_get made.blocks q ≡ Some c
    pub moved : ((q ≡ i) × (i < n)) ⊎ ((q ≡ i + suc m) × (n ≤ i))
    pub number : c.number ≡ block_named z.s.block.number behind b.number
    pub end : c.end ≡ end_edited (λ x. x) z.op b.end
    pub defines : (y : ℕ) → Stays z.op z.s.call.local result_phi y → holds (definitions b) y ≡ true
        → (holds (definitions c) y ≡ true) ⊎ ((i ≡ n) × (holds (phi_locals z.s.block ++ results z.s.before) y ≡ true))

  pub phi_names : (ps : List Phi) → map (λ p. p.local) (map outer_phi ps) ≡ map (λ p. p.local) ps
  phi_names [] = refl
  phi_names (p ∷ ps) = ap (λ (l : List ℕ). p.local ∷ l) (phi_names ps)

  pub same_definitions : (b : Block) → definitions (outer b) ≡ definitions b
  same_definitions b = λ i. phi_names b.phis i ++ results_same z.op b.lines i

  pub first_definitions : definitions first ≡ phi_locals z.s.block ++ results z.s.before
  first_definitions = λ i. phi_names z.s.block.phis i ++ results_same z.op z.s.before i

  -- what the block of the call has defined behind the call, its second half has, or its first
  pub behind_defined : (ls : List Line) (y : ℕ) → Stays z.op z.s.call.local result_phi y → holds (phi_locals z.s.block ++ results (z.s.before ++ z.s.call ∷ ls)) y ≡ true
      → (holds (phi_locals second ++ results (outer_lines ls)) y ≡ true) ⊎ (holds (phi_locals z.s.block ++ results z.s.before) y ≡ true)
  behind_defined ls y stays h = phi_or_line (holds_either y (phi_locals z.s.block) (results (z.s.before ++ z.s.call ∷ ls)) h)
    where
      after : holds (results ls) y ≡ true → holds (phi_locals second ++ results (outer_lines ls)) y ≡ true
      after e = holds_back y (phi_locals second) (results (outer_lines ls)) (ap (λ (l : List ℕ). holds l y) (results_same z.op ls) ∙ e)

      called : (o : Option ℕ) → z.s.call.local ≡ o → holds (cons_option o (results ls)) y ≡ true → holds (phi_locals second ++ results (outer_lines ls)) y ≡ true
      called None is e = after e
      called (Some x) is e = by (or_cases (nat_eq y x) (holds (results ls) y) e)
        where
          by : (nat_eq y x ≡ true) ⊎ (holds (results ls) y ≡ true) → holds (phi_locals second ++ results (outer_lines ls)) y ≡ true
          by (inl t) =
              let local : z.s.call.local ≡ Some y = is ∙ ap (λ (k : ℕ). Some k) (sym (eqb-true y x t)) in
              holds_front y (phi_locals second) (results (outer_lines ls))
              (result_there y z.s.call.local z.callee.result (return_entries (copied_with z.op z.f z.callee z.arguments)) local (stays.1 local))
          by (inr t) = after t

      line : (holds (results z.s.before) y ≡ true) ⊎ (holds (results (z.s.call ∷ ls)) y ≡ true) → (holds (phi_locals second ++ results (outer_lines ls)) y ≡ true) ⊎ (holds (phi_locals z.s.block ++ results z.s.before) y ≡ true)
      line (inl e) = inr (holds_back y (phi_locals z.s.block) (results z.s.before) e)
      line (inr e) = inl (called z.s.call.local refl e)

      phi_or_line : (holds (phi_locals z.s.block) y ≡ true) ⊎ (holds (results (z.s.before ++ z.s.call ∷ ls)) y ≡ true) → (holds (phi_locals second ++ results (outer_lines ls)) y ≡ true) ⊎ (holds (phi_locals z.s.block ++ results z.s.before) y ≡ true)
      phi_or_line (inl e) = inr (holds_front y (phi_locals z.s.block) (results z.s.before) e)
      phi_or_line (inr e) =
          line (holds_either y (results z.s.before) (results (z.s.call ∷ ls)) (ap (λ (l : List ℕ). holds l y) (sym (results_both z.s.before (z.s.call ∷ ls))) ∙ e))

  pub finish_front : (i : ℕ) (b : Block) → slice_get z.s.front i ≡ Some b → Finishes i b i (outer b)
  finish_front i b at = record {
    old = was_front i b at;
    now = front_at i b at;
    moved = inl (refl, slice_get_within z.s.front i b at);
    number = other_number i b (was_front i b at) (λ is. let lt : i < n = slice_get_within z.s.front i b at in omega (arith, is, lt));
    end = refl;
    defines = λ y stays h. inl (ap (λ (l : List ℕ). holds l y) (same_definitions b) ∙ h);
  }

  pub finish_here : Finishes n z.s.block (n + suc m) second
  finish_here = record {
    old = was_here;
    now = second_at;
    moved = inr (refl, omega arith);
    number = sym (ap (λ (t : Bool). if t then behind else z.s.block.number) (eq-eqb z.s.block.number z.s.block.number refl));
    end = refl;
    defines = λ y stays h. by y (behind_defined z.s.after y stays (ap (λ (ls : List Line). holds (phi_locals z.s.block ++ results ls) y) (sym z.lines) ∙ h));
  }
    where
      by : (y : ℕ) → (holds (definitions second) y ≡ true) ⊎ (holds (phi_locals z.s.block ++ results z.s.before) y ≡ true)
          → (holds (definitions second) y ≡ true) ⊎ ((n ≡ n) × (holds (phi_locals z.s.block ++ results z.s.before) y ≡ true))
      by y (inl e) = inl e
      by y (inr e) = inr (refl, e)

  pub finish_back : (k : ℕ) (b : Block) → slice_get z.s.back k ≡ Some b → Finishes (n + suc k) b (n + suc (m + suc k)) (outer b)
  finish_back k b at = record {
    old = was_back k b at;
    now = back_at k b at;
    moved = inr (omega arith, omega arith);
    number = other_number (n + suc k) b (was_back k b at) (λ is. omega (arith, is));
    end = refl;
    defines = λ y stays h. inl (ap (λ (l : List ℕ). holds l y) (same_definitions b) ∙ h);
  }

  pub start_front : (i : ℕ) (b : Block) → slice_get z.s.front i ≡ Some b → Starts i b i (outer b)
  start_front i b at = record { old = was_front i b at; now = front_at i b at; moved = inl (refl, let lt : i < n = slice_get_within z.s.front i b at in omega (arith, lt)); number = refl; phis = refl }

  pub start_here : Starts n z.s.block n first
  start_here = record { old = was_here; now = first_at; moved = inl (refl, omega arith); number = refl; phis = refl }

  pub start_back : (k : ℕ) (b : Block) → slice_get z.s.back k ≡ Some b → Starts (n + suc k) b (n + suc (m + suc k)) (outer b)
  start_back k b at = record { old = was_back k b at; now = back_at k b at; moved = inr (omega arith, omega arith); number = refl; phis = refl }

  abbrev pub Begun : ℕ → Block → Type 0
  Begun i b = (q : ℕ) × (c : Block) × Starts i b q c

  abbrev pub Ended : ℕ → Block → Type 0
  Ended i b = (q : ℕ) × (c : Block) × Finishes i b q c

  pub starting : (i : ℕ) (b : Block) → slice_get z.f.blocks i ≡ Some b → Begun i b
  starting i b at = by (stood i b at)
    where
      by : Stood i b → Begun i b
      by (inl h) = (i, outer b, start_front i b h)
      by (inr (inl (is, b_is))) = (n, first, subst (λ (j : ℕ). Starts j b n first) (sym is) (subst (λ (x : Block). Starts n x n first) (sym b_is) start_here))
      by (inr (inr (k, is, h))) = (n + suc (m + suc k), outer b, subst (λ (j : ℕ). Starts j b (n + suc (m + suc k)) (outer b)) (sym is) (start_back k b h))

  pub finishing : (i : ℕ) (b : Block) → slice_get z.f.blocks i ≡ Some b → Ended i b
  finishing i b at = by (stood i b at)
    where
      by : Stood i b → Ended i b
      by (inl h) = (i, outer b, finish_front i b h)
      by (inr (inl (is, b_is))) = (n + suc m, second, subst (λ (j : ℕ). Finishes j b (n + suc m) second) (sym is) (subst (λ (x : Block). Finishes n x (n + suc m) second) (sym b_is) finish_here))
      by (inr (inr (k, is, h))) = (n + suc (m + suc k), outer b, subst (λ (j : ℕ). Finishes j b (n + suc (m + suc k)) (outer b)) (sym is) (finish_back k b h))

  -- a block is the start of one of the caller's, one of the copy, or the second half
  abbrev pub Started : ℕ → Block → Type 0
  Started q c = (i : ℕ) × (b : Block) × Starts i b q c

  abbrev pub Finished : ℕ → Block → Type 0
  Finished q c = (i : ℕ) × (b : Block) × Finishes i b q c

  pub by_start : (q : ℕ) (c : Block) → slice_get made.blocks q ≡ Some c → Started q c ⊎ (InCopy q c ⊎ IsSecond q c)
  by_start q c at = by (standing q c at)
    where
      by : Stands q c → Started q c ⊎ (InCopy q c ⊎ IsSecond q c)
      by (inl (b, at_b, is)) = inl (q, b, subst (λ (x : Block). Starts q b q x) (sym is) (start_front q b at_b))
      by (inr (inl (at_n, is))) = inl (n, z.s.block, subst (λ (p : ℕ). Starts n z.s.block p c) (sym at_n) (subst (λ (x : Block). Starts n z.s.block n x) (sym is) start_here))
      by (inr (inr (inl h))) = inr (inl h)
      by (inr (inr (inr (inl h)))) = inr (inr h)
      by (inr (inr (inr (inr (k, b, at_k, at_b, is))))) =
          inl (n + suc k, b, subst (λ (p : ℕ). Starts (n + suc k) b p c) (sym at_k) (subst (λ (x : Block). Starts (n + suc k) b (n + suc (m + suc k)) x) (sym is) (start_back k b at_b)))

  pub by_end : (q : ℕ) (c : Block) → slice_get made.blocks q ≡ Some c → Finished q c ⊎ (IsFirst q c ⊎ InCopy q c)
  by_end q c at = by (standing q c at)
    where
      by : Stands q c → Finished q c ⊎ (IsFirst q c ⊎ InCopy q c)
      by (inl (b, at_b, is)) = inl (q, b, subst (λ (x : Block). Finishes q b q x) (sym is) (finish_front q b at_b))
      by (inr (inl h)) = inr (inl h)
      by (inr (inr (inl h))) = inr (inr h)
      by (inr (inr (inr (inl (at_n, is))))) =
          inl (n, z.s.block, subst (λ (p : ℕ). Finishes n z.s.block p c) (sym at_n) (subst (λ (x : Block). Finishes n z.s.block (n + suc m) x) (sym is) finish_here))
      by (inr (inr (inr (inr (k, b, at_k, at_b, is))))) =
          inl (n + suc k, b, subst (λ (p : ℕ). Finishes (n + suc k) b p c) (sym at_k) (subst (λ (x : Block). Finishes (n + suc k) b (n + suc (m + suc k)) x) (sym is) (finish_back k b at_b)))
