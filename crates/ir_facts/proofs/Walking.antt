-- Walks over lists: what is left in front of an item, and what is pushed for it.
use Rattle.std.proofs.Common.{◌≡◌, ℕ, suc, ◌+◌, ◌<◌, Bool, true, false, List, [], ◌∷◌, ◌++◌, length, get_or, drop, append_assoc, Option, Some, None, sym, ◌∙◌, ap, if◌then◌else◌}
use Rattle.std.specs.Prelude.{◌&&◌}
use Rattle.ir_tree.specs.declared.block.Block.{Block}
use Rattle.ir_tree.specs.declared.instr.Line.{Line}
use Rattle.ir_tree.specs.declared.instr.Phi.{Phi}
use Rattle.ir_tree.specs.declared.operand.Operand.{Operand}
use Rattle.ir_meaning.specs.Facts.{Facts}
use Rattle.fact_sources.specs.Membership.{is_member}
use Rattle.fact_sources.proofs.Stepping.{cut_at}
use Rattle.ir_facts.specs.Clear.{all_inner, block_clear, blocks_clear, inner_keys, keys_among}
use Rattle.ir_facts.specs.FactFlow.{earlier, flow_points, opened, phi_in, phi_of}
use Rattle.ir_facts.specs.Points.{held_behind, line_points}

-- the first that is met is what is found, and those in front of it are passed over
pub found_at : {X Y : Type 0} (find : List X → Y) (xs : List X) (i : ℕ) (x : X) (y : Y) → i < length xs → x ≡ get_or xs i x → find (x ∷ drop (i + 1) xs) ≡ y → y ≡ find (drop i xs)
found_at find xs i x y lt is gives = sym (ap find (cut_at xs i x lt is) ∙ gives)

pub looked_past : {X Y : Type 0} (find : List X → Y) (xs : List X) (i : ℕ) (x : X) → i < length xs → x ≡ get_or xs i x → find (x ∷ drop (i + 1) xs) ≡ find (drop (i + 1) xs)
    → find (drop (i + 1) xs) ≡ find (drop i xs)
looked_past find xs i x lt is passes = sym (ap find (cut_at xs i x lt is) ∙ passes)

-- ---- locals of facts

pub key_pushed : (among : ℕ → Bool) (p : ℕ × Operand) (rest more : Facts) (old mid new : List ℕ) → more ≡ p ∷ rest → is_member among p.1 ≡ true → new ≡ mid → mid ≡ old ++ p.0 ∷ []
    → new ++ keys_among among rest ≡ old ++ keys_among among more
key_pushed among p rest more old mid new cut is same e =
    ap (λ (xs : List ℕ). xs ++ keys_among among rest) (same ∙ e)
    ∙ append_assoc old (p.0 ∷ []) (keys_among among rest)
    ∙ ap (λ (t : Bool). old ++ (if t then p.0 ∷ keys_among among rest else keys_among among rest)) (sym is)
    ∙ ap (λ (fs : Facts). old ++ keys_among among fs) (sym cut)

pub key_passed : (among : ℕ → Bool) (p : ℕ × Operand) (rest more : Facts) (old new : List ℕ) → more ≡ p ∷ rest → is_member among p.1 ≡ false → new ≡ old
    → new ++ keys_among among rest ≡ old ++ keys_among among more
key_passed among p rest more old new cut is same =
    ap (λ (xs : List ℕ). xs ++ keys_among among rest) same
    ∙ ap (λ (t : Bool). old ++ (if t then p.0 ∷ keys_among among rest else keys_among among rest)) (sym is)
    ∙ ap (λ (fs : Facts). old ++ keys_among among fs) (sym cut)

pub inner_pushed : (among : ℕ → Bool) (b : Block) (rest more : List Block) (old new : List ℕ) → more ≡ b ∷ rest → new ≡ old ++ inner_keys among b
    → new ++ all_inner among rest ≡ old ++ all_inner among more
inner_pushed among b rest more old new cut e =
    ap (λ (xs : List ℕ). xs ++ all_inner among rest) e
    ∙ append_assoc old (inner_keys among b) (all_inner among rest)
    ∙ ap (λ (bs : List Block). old ++ all_inner among bs) (sym cut)

-- ---- blocks

pub block_passed : (bars : ℕ → ℕ → Bool) (place : ℕ → Option ℕ) (p next : ℕ) (b : Block) (rest more : List Block) → more ≡ b ∷ rest → next ≡ suc p → block_clear bars place p b ≡ true
    → blocks_clear bars place next rest ≡ blocks_clear bars place p more
block_passed bars place p next b rest more cut step is =
    ap (λ (n : ℕ). blocks_clear bars place n rest) step
    ∙ ap (λ (t : Bool). t && blocks_clear bars place (suc p) rest) (sym is)
    ∙ ap (blocks_clear bars place p) (sym cut)

-- the first that isn't clear decides
pub block_stops : (bars : ℕ → ℕ → Bool) (place : ℕ → Option ℕ) (p : ℕ) (b : Block) (rest more : List Block) → more ≡ b ∷ rest → block_clear bars place p b ≡ false
    → false ≡ blocks_clear bars place p more
block_stops bars place p b rest more cut is = sym (ap (blocks_clear bars place p) cut ∙ ap (λ (t : Bool). t && blocks_clear bars place (suc p) rest) is)

pub phi_passed : (x : ℕ) (b : Block) (rest more : List Block) → more ≡ b ∷ rest → phi_in x b.phis ≡ None → phi_of x rest ≡ phi_of x more
phi_passed x b rest more cut none = ap (λ (o : Option Phi). earlier o (phi_of x rest)) (sym none) ∙ ap (phi_of x) (sym cut)

pub phi_met : (x : ℕ) (b : Block) (p : Phi) (rest more : List Block) → more ≡ b ∷ rest → phi_in x b.phis ≡ Some p → Some p ≡ phi_of x more
phi_met x b p rest more cut is = sym (ap (phi_of x) cut ∙ ap (λ (o : Option Phi). earlier o (phi_of x rest)) is)

-- ---- points

pub line_pushed : (x : ℕ) (v : Operand) (l : Line) (rest more : List Line) (held next : Bool) (old new : List Bool) → more ≡ l ∷ rest → next ≡ held_behind x v l.local held
    → new ≡ old ++ held ∷ [] → new ++ line_points x v rest next ≡ old ++ line_points x v more held
line_pushed x v l rest more held next old new cut is e =
    ap (λ (ms : List Bool). ms ++ line_points x v rest next) e
    ∙ append_assoc old (held ∷ []) (line_points x v rest next)
    ∙ ap (λ (h : Bool). old ++ held ∷ line_points x v rest h) is
    ∙ ap (λ (ls : List Line). old ++ line_points x v ls held) (sym cut)

pub points_pushed : (x : ℕ) (v : Operand) (rows : ℕ → ℕ → Bool) (p next : ℕ) (b : Block) (rest more : List Block) (start : Bool) (old new : List Bool) → more ≡ b ∷ rest → next ≡ suc p
    → start ≡ opened x v b.phis (rows p 0) (rows p 1) → new ≡ old ++ line_points x v b.lines start → new ++ flow_points x v rows next rest ≡ old ++ flow_points x v rows p more
points_pushed x v rows p next b rest more start old new cut step is e =
    ap (λ (ms : List Bool). ms ++ flow_points x v rows next rest) e
    ∙ append_assoc old (line_points x v b.lines start) (flow_points x v rows next rest)
    ∙ (λ i. old ++ (line_points x v b.lines (is i) ++ flow_points x v rows (step i) rest))
    ∙ ap (λ (bs : List Block). old ++ flow_points x v rows p bs) (sym cut)
