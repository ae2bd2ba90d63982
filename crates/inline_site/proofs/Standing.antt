-- Sites: the one at a place, found block by block.
use Rattle.std.proofs.Common.{◌≡◌, ℕ, zero, suc, ◌+◌, ◌<◌, ◌≤◌, List, [], ◌∷◌, ◌++◌, Some, length, take, get_or, refl, sym, ◌∙◌, ap, arith, length-append}
use Rattle.std.specs.Prelude.{slice_get}
use Rattle.std.specs.List.{between}
use Rattle.std.proofs.lemmas.List.{drop_more, take-append-drop, take_more}
use Rattle.std.proofs.lemmas.Slice.{between_to_end}
use Rattle.ir_tree.specs.declared.block.Block.{Block}
use Rattle.ir_tree.specs.declared.instr.Line.{Line}
use Rattle.ir_meaning.specs.Program.{counted}
use Rattle.inline_site.specs.Sites.{IsAt, Site, StandsAt, counted_in}

-- a line is one of its block's
pub within : (block : Block) (before after : List Line) (call : Line) → block.lines ≡ before ++ call ∷ after → length before + 1 ≤ length block.lines
within block before after call e =
    let many : length block.lines ≡ length (before ++ call ∷ after) = ap length e in
    let both : length (before ++ call ∷ after) ≡ length before + length (call ∷ after) = length-append before (call ∷ after) in
    omega (arith, many, both)

-- the line at a place is one of the block up to which the place reaches
abbrev pub Found : Block → ℕ → Block → List Line → Type 0
Found b left block before = (block ≡ b) × (left ≡ length block.phis + (length before + 1))

pub found_in : (bs : List Block) (i left : ℕ) (b : Block) → slice_get bs i ≡ Some b → 1 ≤ left → left ≤ counted b
    → (front back : List Block) (block : Block) (before after : List Line) (call : Line) → bs ≡ front ++ block ∷ back → block.lines ≡ before ++ call ∷ after
    → counted_in (take i bs) + left ≡ counted_in front + (length block.phis + (length before + 1)) → Found b left block before
found_in [] i left b at some most front back block before after call e lines place = absurd (cc at)
found_in (x ∷ xs) zero left b at some most [] back block before after call e lines place = (cc (e, at), omega (arith, place))
found_in (x ∷ xs) zero left b at some most (y ∷ front) back block before after call e lines place =
    let same : y ≡ b = cc (e, at) in
    let many : counted y ≡ counted b = ap counted same in
    absurd (omega (arith, place, most, many))
found_in (x ∷ xs) (suc i) left b at some most [] back block before after call e lines place =
    let same : x ≡ block = cc e in
    let many : counted x ≡ counted block = ap counted same in
    let less : length before + 1 ≤ length block.lines = within block before after call lines in
    absurd (omega (arith, place, some, many, less))
found_in (x ∷ xs) (suc i) left b at some most (y ∷ front) back block before after call e lines place =
    let same : x ≡ y = cc e in
    let many : counted x ≡ counted y = ap counted same in
    found_in xs i left b at some most front back block before after call (cc e) lines (omega (arith, place, many))

pub the_block : (bs : List Block) (place i left : ℕ) (b : Block) → place ≡ counted_in (take i bs) + left → slice_get bs i ≡ Some b → 1 ≤ left → left ≤ counted b
    → (s : Site) → StandsAt bs place s → left ≡ length b.phis + (length s.before + 1)
the_block bs place i left b is at some most s h =
    let found : Found b left s.block s.before = found_in bs i left b at some most s.front s.back s.block s.before s.after s.call h.blocks h.lines (sym is ∙ h.counts) in
    found.1 ∙ ap (λ (x : Block). length x.phis + (length s.before + 1)) found.0

-- and an instruction of it
pub in_block : (bs : List Block) (place i left : ℕ) (b : Block) → place ≡ counted_in (take i bs) + left → slice_get bs i ≡ Some b → 1 ≤ left → left ≤ counted b
    → (s : Site) → StandsAt bs place s → (length b.phis < left) × (left ≤ length b.phis + length b.lines)
in_block bs place i left b is at some most s h =
    let found : Found b left s.block s.before = found_in bs i left b at some most s.front s.back s.block s.before s.after s.call h.blocks h.lines (sym is ∙ h.counts) in
    let less : length s.before + 1 ≤ length s.block.lines = within s.block s.before s.after s.call h.lines in
    let phis : length s.block.phis ≡ length b.phis = ap (λ (x : Block). length x.phis) found.0 in
    let lines : length s.block.lines ≡ length b.lines = ap (λ (x : Block). length x.lines) found.0 in
    (omega (arith, found.1, phis), omega (arith, found.1, phis, lines, less))

-- no line stands past all blocks
past_all : (bs : List Block) (left : ℕ) → 1 ≤ left → (front back : List Block) (block : Block) (before after : List Line) (call : Line)
    → bs ≡ front ++ block ∷ back → block.lines ≡ before ++ call ∷ after → counted_in bs + left ≡ counted_in front + (length block.phis + (length before + 1)) → ⊥
past_all [] left some [] back block before after call e lines place = cc e
past_all [] left some (y ∷ front) back block before after call e lines place = cc e
past_all (x ∷ xs) left some [] back block before after call e lines place =
    let same : x ≡ block = cc e in
    let many : counted x ≡ counted block = ap counted same in
    let less : length before + 1 ≤ length block.lines = within block before after call lines in
    absurd (omega (arith, place, some, many, less))
past_all (x ∷ xs) left some (y ∷ front) back block before after call e lines place =
    let same : x ≡ y = cc e in
    let many : counted x ≡ counted y = ap counted same in
    past_all xs left some front back block before after call (cc e) lines (omega (arith, place, many))

pub none_past : (bs : List Block) (place left : ℕ) → place ≡ counted_in bs + left → 1 ≤ left → (s : Site) → StandsAt bs place s → ⊥
none_past bs place left is some s h = past_all bs left some s.front s.back s.block s.before s.after s.call h.blocks h.lines (sym is ∙ h.counts)

-- no line stands at the place 0
pub none_at_zero : (bs : List Block) (place : ℕ) → place ≡ 0 → (s : Site) → StandsAt bs place s → ⊥
none_at_zero bs place is s h = let at : place ≡ counted_in s.front + (length s.block.phis + (length s.before + 1)) = h.counts in omega (arith, is, at)

-- blocks in front of one
front_is : (bs : List Block) (i : ℕ) (front back : List Block) (block : Block) → bs ≡ front ++ block ∷ back → length front ≡ i → take i bs ≡ front
front_is bs zero [] back block e many = refl
front_is bs (suc i) [] back block e many = absurd (omega (arith, many))
front_is bs zero (y ∷ front) back block e many = absurd (omega (arith, many))
front_is [] (suc i) (y ∷ front) back block e many = absurd (cc e)
front_is (x ∷ xs) (suc i) (y ∷ front) back block e many =
    (λ k. let same : x ≡ y = cc e in same k ∷ front_is xs i front back block (cc e) (omega (arith, many)) k)

block_is : (bs : List Block) (i : ℕ) (b : Block) (front back : List Block) (block : Block) → slice_get bs i ≡ Some b → bs ≡ front ++ block ∷ back → length front ≡ i → block ≡ b
block_is [] i b front back block at e many = absurd (cc at)
block_is (x ∷ xs) zero b [] back block at e many = cc (e, at)
block_is (x ∷ xs) zero b (y ∷ front) back block at e many = absurd (omega (arith, many))
block_is (x ∷ xs) (suc i) b [] back block at e many = absurd (omega (arith, many))
block_is (x ∷ xs) (suc i) b (y ∷ front) back block at e many = block_is xs i b front back block at (cc e) (omega (arith, many))

-- the line of a place in its block stands at the place that is counted
pub stands : (bs : List Block) (place i left line : ℕ) (b : Block) → place ≡ counted_in (take i bs) + left → slice_get bs i ≡ Some b → left ≡ length b.phis + (line + 1)
    → (s : Site) → IsAt bs i line s → StandsAt bs place s
stands bs place i left line b is at left_is s h =
    let front : take i bs ≡ s.front = front_is bs i s.front s.back s.block h.blocks h.front in
    let many : counted_in (take i bs) ≡ counted_in s.front = ap counted_in front in
    let block : s.block ≡ b = block_is bs i b s.front s.back s.block at h.blocks h.front in
    let phis : length s.block.phis ≡ length b.phis = ap (λ (x : Block). length x.phis) block in
    record {
      blocks = h.blocks;
      lines = h.lines;
      counts = omega (arith, is, left_is, many, phis, h.before);
    }

-- ---- one site at a place

one_call : (before before' after after' : List Line) (call call' : Line) → before ++ call ∷ after ≡ before' ++ call' ∷ after' → length before ≡ length before' → call ≡ call'
one_call [] [] after after' call call' e many = cc e
one_call [] (x ∷ before') after after' call call' e many = absurd (omega (arith, many))
one_call (x ∷ before) [] after after' call call' e many = absurd (omega (arith, many))
one_call (x ∷ before) (y ∷ before') after after' call call' e many = one_call before before' after after' call call' (cc e) (omega (arith, many))

at_front : (front back : List Block) (block : Block) → slice_get (front ++ block ∷ back) (length front) ≡ Some block
at_front [] back block = refl
at_front (x ∷ front) back block = at_front front back block

taken_front : (front back : List Block) (block : Block) → take (length front) (front ++ block ∷ back) ≡ front
taken_front [] back block = refl
taken_front (x ∷ front) back block = ap (λ (l : List Block). x ∷ l) (taken_front front back block)

pub one_line : (bs : List Block) (place : ℕ) (s t : Site) → StandsAt bs place s → StandsAt bs place t → s.call ≡ t.call
one_line bs place s t h g =
    let at : slice_get bs (length s.front) ≡ Some s.block = ap (λ (l : List Block). slice_get l (length s.front)) h.blocks ∙ at_front s.front s.back s.block in
    let taken : take (length s.front) bs ≡ s.front = ap (take (length s.front)) h.blocks ∙ taken_front s.front s.back s.block in
    let many : counted_in (take (length s.front) bs) ≡ counted_in s.front = ap counted_in taken in
    let less : length s.before + 1 ≤ length s.block.lines = within s.block s.before s.after s.call h.lines in
    let place_s : place ≡ counted_in s.front + (length s.block.phis + (length s.before + 1)) = h.counts in
    let place_t : place ≡ counted_in t.front + (length t.block.phis + (length t.before + 1)) = g.counts in
    let found : Found s.block (length s.block.phis + (length s.before + 1)) t.block t.before =
    found_in bs (length s.front) (length s.block.phis + (length s.before + 1)) s.block at (omega arith) (omega (arith, less)) t.front t.back t.block t.before t.after t.call g.blocks g.lines
    (omega (arith, many, place_s, place_t)) in
    let phis : length t.block.phis ≡ length s.block.phis = ap (λ (x : Block). length x.phis) found.0 in
    one_call s.before t.before s.after t.after s.call t.call (sym h.lines ∙ ap (λ (x : Block). x.lines) (sym found.0) ∙ g.lines) (omega (arith, found.1, phis))

-- one block more
counted_more : (xs : List Block) (y : Block) → counted_in (xs ++ y ∷ []) ≡ counted_in xs + counted y
counted_more [] y = omega arith
counted_more (x ∷ xs) y = let more : counted_in (xs ++ y ∷ []) ≡ counted_in xs + counted y = counted_more xs y in omega (arith, more)

pub counted_next : (bs : List Block) (i : ℕ) (b : Block) → i < length bs → b ≡ get_or bs i b → counted_in (take (i + 1) bs) ≡ counted_in (take i bs) + (length b.phis + length b.lines + 1)
counted_next bs i b lt is =
    ap counted_in (take_more bs i b lt) ∙ counted_more (take i bs) (get_or bs i b) ∙ ap (λ (x : Block). counted_in (take i bs) + counted x) (sym is)

-- a list about one of its elements
pub split_here : {X : Type 0} (xs : List X) (i : ℕ) (x : X) → i < length xs → x ≡ get_or xs i x → xs ≡ take i xs ++ x ∷ between (i + 1) (length xs) xs
split_here xs i x lt is =
    sym (take-append-drop i xs)
    ∙ ap (λ l. take i xs ++ l) (drop_more xs i x lt)
    ∙ (λ k. take i xs ++ sym is k ∷ sym (between_to_end xs (i + 1) (length xs) (omega arith)) k)
