-- Steps of loops.
use Rattle.std.proofs.Common.{◌≡◌, ℕ, zero, suc, ◌+◌, ◌-◌, ◌≤◌, ◌<◌, max, nat_eq, nat_lt, Bool, true, false, List, [], ◌∷◌, ◌++◌, length, get_or, drop, map, Option, Some, None, inl, inr, refl, sym, ◌∙◌, ap, arith, if◌then◌else◌, append_assoc}
use Rattle.std.specs.Prelude.{cond, slice_get, flat_map}
use Rattle.std.proofs.lemmas.List.{drop_more, get_or_past}
use Rattle.std.proofs.lemmas.Option.{slice_get_past, slice_get_read}
use Rattle.std.proofs.lemmas.Bool.{eqb-true, eq-eqb, ltb-true, ltb-false}
use Rattle.ir_tree.specs.Flow.{Among, definitions, edges, leading_to, locals, parameters, phi_locals, results, room}
use Rattle.ir_tree.specs.Formed.{numbers}
use Rattle.ir_tree.specs.declared.block.Block.{Block}
use Rattle.ir_tree.specs.declared.function.Function.{Function}
use Rattle.ir_tree.specs.declared.instr.Incoming.{Incoming}
use Rattle.ir_tree.specs.declared.instr.Line.{Line}
use Rattle.ir_tree.specs.declared.instr.Phi.{Phi}
use Rattle.ir_tree.specs.declared.operand.Operand.{Operand}
use Rattle.ir_tree.specs.declared.operand.Operand.TheVariants.{Local, Poison}
use Rattle.ir_tree.specs.declared.operand.Reg.{Reg}
use Rattle.ir_flow.specs.Graph.{row}
use Rattle.ir_flow.specs.OfFunction.{IsGraphOf}
use Rattle.ir_meaning.specs.Promote.{Current, Makes, Other, Writes, behind, changed}
use Rattle.slot_promote.specs.Promoted.{End, block_with, blocks_with, end_with, ends_with, entries_of, entry_of, first_phi, free, next_number, phis_from, promoted_function, takes}
use Rattle.promotable_slots.specs.Slots.{promoted_slots}
use Rattle.slot_promote.specs.Tables.{end_view, ends_in, first_in, viewed}
use Rattle.slot_promote.specs.Values.{behind_line, behind_lines, goes, instr_with, is_there, makes, reg_of, regs, placed, without_slots, writes}
use Rattle.slot_promote.specs.declared.phis.BlockEnd.{BlockEnd}
use Rattle.slot_promote.specs.declared.slots.SlotRank.{SlotRank}
use Rattle.promotable_slots.specs.declared.slots.Slot.{Slot}

-- ---- slots

cond_if : {X : Type 0} (b : Bool) (x y : X) → cond b x y ≡ (if b then x else y)
cond_if true x y = refl
cond_if false x y = refl

-- places are put into the table from the last slot on
pub placed_before : (list : List Slot) (rank : ℕ) (d : Slot) (table more : ℕ → Option SlotRank) → 0 < rank → rank ≤ length list → ((x : ℕ) → table x ≡ placed rank (drop rank list) x)
    → ((x : ℕ) → more x ≡ cond (nat_eq (get_or list (rank - 1) d).local x) (Some (record { rank = rank - 1; reg = (get_or list (rank - 1) d).reg })) (table x)) → (x : ℕ) → more x ≡ placed (rank - 1) (drop (rank - 1) list) x
placed_before list rank d table more some most is put x =
    put x
    ∙ cond_if (nat_eq s.local x) (Some here) (table x)
    ∙ ap (λ (o : Option SlotRank). if nat_eq s.local x then Some here else o) (is x ∙ ap (λ (k : ℕ). placed k (drop rank list) x) next)
    ∙ sym (ap (λ (l : List Slot). placed (rank - 1) l x) (drop_more list (rank - 1) d (omega (arith, some, most)) ∙ ap (λ (k : ℕ). s ∷ drop k list) behind))
  where
    s : Slot
    s = get_or list (rank - 1) d

    here : SlotRank
    here = record { rank = rank - 1; reg = s.reg }

    next : rank ≡ suc (rank - 1)
    next = omega (arith, some)

    behind : rank - 1 + 1 ≡ rank
    behind = omega (arith, some)

pub among_index : (xs : List ℕ) (i : ℕ) → i < length xs → Among (get_or xs i 0) xs
among_index [] i lt = absurd (omega (arith, lt))
among_index (x ∷ xs) zero lt = inl refl
among_index (x ∷ xs) (suc i) lt = inr (among_index xs i (omega (arith, lt)))

pub end_at_index : (at : ℕ → Option SlotRank) (ends : List BlockEnd) (p : ℕ) (d : BlockEnd) → p < length ends → ends_in at ends p ≡ end_view at (get_or ends p d)
end_at_index at [] p d lt = absurd (omega (arith, lt))
end_at_index at (e ∷ ends) zero d lt = refl
end_at_index at (e ∷ ends) (suc p) d lt = end_at_index at ends p d (omega (arith, lt))

-- ---- numbers above those of lists

room_both : (xs ys : List ℕ) → room (xs ++ ys) ≡ max (room xs) (room ys)
room_both [] ys = omega arith
room_both (x ∷ xs) ys = let h : room (xs ++ ys) ≡ max (room xs) (room ys) = room_both xs ys in omega (arith, h)

assoc : (a b c : ℕ) → max (max a b) c ≡ max a (max b c)
assoc a b c = omega arith

swap : (a b c : ℕ) → max a (max b c) ≡ max b (max a c)
swap a b c = omega arith

sorted_out : (next p r b d m all : ℕ) → max next (max (max (max p r) d) (max (suc b) m)) ≡ all → max (max (max (max next p) r) (b + 1)) (max d m) ≡ all
sorted_out next p r b d m all h =
    ap (λ (k : ℕ). max (max (max (max next p) r) k) (max d m)) one
    ∙ assoc (max (max next p) r) (suc b) (max d m) ∙ assoc (max next p) r (max (suc b) (max d m)) ∙ assoc next p (max r (max (suc b) (max d m)))
    ∙ ap (λ (k : ℕ). max next (max p (max r k))) (swap (suc b) d m)
    ∙ ap (λ (k : ℕ). max next (max p k)) (sym (assoc r d (max (suc b) m))) ∙ ap (λ (k : ℕ). max next k) (sym (assoc p (max r d) (max (suc b) m)) ∙ ap (λ (k : ℕ). max k (max (suc b) m)) (sym (assoc p r d))) ∙ h
  where
    one : b + 1 ≡ suc b
    one = omega arith

pub one_block_above : (bs : List Block) (i next p r all : ℕ) (b : Block) → i < length bs → b ≡ get_or bs i b → p ≡ room (phi_locals b) → r ≡ room (results b.lines)
    → max next (max (room (flat_map definitions (drop i bs))) (room (map (λ b. b.number) (drop i bs)))) ≡ all
    → max (max (max (max next p) r) (b.number + 1)) (max (room (flat_map definitions (drop (i + 1) bs))) (room (map (λ b. b.number) (drop (i + 1) bs)))) ≡ all
one_block_above bs i next p r all b lt is p_is r_is h =
    let first : drop i bs ≡ b ∷ drop (i + 1) bs = drop_more bs i b lt ∙ ap (λ (x : Block). x ∷ drop (i + 1) bs) (sym is) in
    let parts : room (flat_map definitions (drop i bs)) ≡ max (max (room (phi_locals b)) (room (results b.lines))) (room (flat_map definitions (drop (i + 1) bs))) =
    ap (λ (l : List Block). room (flat_map definitions l)) first ∙ room_both (definitions b) (flat_map definitions (drop (i + 1) bs)) ∙ ap (λ (k : ℕ). max k (room (flat_map definitions (drop (i + 1) bs)))) (room_both (phi_locals b) (results b.lines)) in
    let numbers : room (map (λ b. b.number) (drop i bs)) ≡ max (suc b.number) (room (map (λ b. b.number) (drop (i + 1) bs))) = ap (λ (l : List Block). room (map (λ b. b.number) l)) first in
    let small : max next (max (max (max p r) (room (flat_map definitions (drop (i + 1) bs)))) (max (suc b.number) (room (map (λ b. b.number) (drop (i + 1) bs)))))
    ≡ max next (max (max (max (room (phi_locals b)) (room (results b.lines))) (room (flat_map definitions (drop (i + 1) bs)))) (max (suc b.number) (room (map (λ b. b.number) (drop (i + 1) bs))))) =
    λ j. max next (max (max (max (p_is j) (r_is j)) (room (flat_map definitions (drop (i + 1) bs)))) (max (suc b.number) (room (map (λ b. b.number) (drop (i + 1) bs))))) in
    let whole : max next (max (room (flat_map definitions (drop i bs))) (room (map (λ b. b.number) (drop i bs))))
    ≡ max next (max (max (max (room (phi_locals b)) (room (results b.lines))) (room (flat_map definitions (drop (i + 1) bs)))) (max (suc b.number) (room (map (λ b. b.number) (drop (i + 1) bs))))) =
    λ j. max next (max (parts j) (numbers j)) in
    sorted_out next p r b.number (room (flat_map definitions (drop (i + 1) bs))) (room (map (λ b. b.number) (drop (i + 1) bs))) all (small ∙ sym whole ∙ h)

pub all_above : (f : Function) (p b m : ℕ) → p ≡ room (parameters f) → b ≡ max (room (flat_map definitions f.blocks)) (room (numbers f)) → m ≡ max p b → m ≡ next_number f
all_above f p b m p_is b_is m_is =
    m_is ∙ (λ i. max (p_is i) (b_is i)) ∙ sym (room_both (locals f) (numbers f) ∙ ap (λ (k : ℕ). max k (room (numbers f))) (room_both (parameters f) (flat_map definitions f.blocks))
    ∙ assoc (room (parameters f)) (room (flat_map definitions f.blocks)) (room (numbers f)))

-- ---- numbers of new phis

pub phi_here : (from : ℕ → List ℕ) (k next place now : ℕ) (b : Bool) → takes place (from place) ≡ b → now ≡ free from k next place → (if b then Some now else None) ≡ first_phi from k next place
phi_here from k next place now b takes_is now_is = (λ i. if sym takes_is i then Some (now_is i) else None)

pub free_more : (from : ℕ → List ℕ) (k next place now after : ℕ) (b : Bool) → takes place (from place) ≡ b → now ≡ free from k next place → after ≡ (if b then now + k else now) → after ≡ free from k next (place + 1)
free_more from k next place now after b takes_is now_is after_is =
    after_is ∙ (λ i. if sym takes_is i then now_is i + k else now_is i) ∙ ap (free from k next) one
  where
    one : suc place ≡ place + 1
    one = omega arith

first_left : (firsts : List (Option ℕ)) (o : Option ℕ) (p : ℕ) → p < length firsts → first_in (firsts ++ o ∷ []) p ≡ first_in firsts p
first_left [] o p lt = absurd (omega (arith, lt))
first_left (x ∷ xs) o zero lt = refl
first_left (x ∷ xs) o (suc p) lt = first_left xs o p (omega (arith, lt))

first_last : (firsts : List (Option ℕ)) (o : Option ℕ) (p : ℕ) → p ≡ length firsts → first_in (firsts ++ o ∷ []) p ≡ o
first_last [] o zero e = refl
first_last [] o (suc p) e = absurd (omega (arith, e))
first_last (x ∷ xs) o zero e = absurd (omega (arith, e))
first_last (x ∷ xs) o (suc p) e = first_last xs o p (omega (arith, e))

-- the next block takes values or not: its first new phi, and the number that is free behind it
pub first_more : (from : ℕ → List ℕ) (k next place : ℕ) (firsts more : List (Option ℕ)) (first : Option ℕ) → length firsts ≡ place → first ≡ first_phi from k next place → more ≡ firsts ++ first ∷ []
    → ((p : ℕ) → p < place → first_in firsts p ≡ first_phi from k next p) → (p : ℕ) → p < place + 1 → first_in more p ≡ first_phi from k next p
first_more from k next place firsts more first long is pushed before p less = ap (λ (l : List (Option ℕ)). first_in l p) pushed ∙ by (nat_lt p place) refl
  where
    by : (t : Bool) → nat_lt p place ≡ t → first_in (firsts ++ first ∷ []) p ≡ first_phi from k next p
    by true e = first_left firsts first p (omega (arith, long, ltb-true p place e)) ∙ before p (ltb-true p place e)
    by false e =
        let here : p ≡ place = omega (arith, ltb-false p place e, less) in
        first_last firsts first p (here ∙ sym long) ∙ is ∙ ap (first_phi from k next) (sym here)

-- ---- phis

pub entry_pushed : (at : ℕ → Option SlotRank) (ends : List BlockEnd) (local : ℕ) (sources : List ℕ) (i : ℕ) (rows new all : List Incoming) (item : Incoming) (e : BlockEnd)
    → i < length sources → get_or sources i 0 < length ends → e ≡ get_or ends (get_or sources i 0) e → item ≡ entry_of local (end_view at e) → new ≡ rows ++ item ∷ []
    → rows ++ entries_of (ends_in at ends) local (drop i sources) ≡ all → new ++ entries_of (ends_in at ends) local (drop (i + 1) sources) ≡ all
entry_pushed at ends local sources i rows new all item e lt inside e_is item_is pushed before =
    ap (λ (l : List Incoming). l ++ entries_of (ends_in at ends) local (drop (i + 1) sources)) pushed
    ∙ append_assoc rows (item ∷ []) (entries_of (ends_in at ends) local (drop (i + 1) sources))
    ∙ ap (λ (x : Incoming). rows ++ (x ∷ entries_of (ends_in at ends) local (drop (i + 1) sources)))
    (item_is ∙ ap (λ (x : BlockEnd). entry_of local (end_view at x)) e_is ∙ ap (entry_of local) (sym (end_at_index at ends (get_or sources i 0) e inside)))
    ∙ ap (λ (l : List ℕ). rows ++ entries_of (ends_in at ends) local l) (sym (drop_more sources i 0 lt)) ∙ before

pub phi_pushed : (ends : ℕ → End) (from : List ℕ) (first rank : ℕ) (list : List Slot) (phis new all : List Phi) (s : Slot) (local : ℕ) (incoming : List Incoming)
    → rank < length list → s ≡ get_or list rank s → local ≡ first + rank → incoming ≡ entries_of ends s.local from → new ≡ phis ++ record { local = local; reg = s.reg; incoming = incoming } ∷ []
    → phis ++ phis_from ends from (first + rank) (drop rank list) ≡ all → new ++ phis_from ends from (first + (rank + 1)) (drop (rank + 1) list) ≡ all
phi_pushed ends from first rank list phis new all s local incoming lt s_is local_is incoming_is pushed before =
    ap (λ (l : List Phi). l ++ phis_from ends from (first + (rank + 1)) (drop (rank + 1) list)) pushed
    ∙ append_assoc phis (record { local = local; reg = s.reg; incoming = incoming } ∷ []) (phis_from ends from (first + (rank + 1)) (drop (rank + 1) list))
    ∙ (λ i. phis ++ (record { local = local_is i; reg = s.reg; incoming = incoming_is i } ∷ phis_from ends from (next i) (drop (rank + 1) list)))
    ∙ ap (λ (l : List Slot). phis ++ phis_from ends from (first + rank) l) (sym (drop_more list rank s lt ∙ ap (λ (x : Slot). x ∷ drop (rank + 1) list) (sym s_is))) ∙ before
  where
    next : first + (rank + 1) ≡ suc (first + rank)
    next = omega arith

-- ---- values

pub made : (at : ℕ → Option SlotRank) (local : ℕ) (o : Option ℕ) (reg : Reg) (has : Bool) (old new : Current) (x : ℕ) → o ≡ Some local → has ≡ is_there (at local) → has ≡ true → reg ≡ reg_of (at local)
    → new x ≡ changed local (Poison reg) old x → new x ≡ behind (regs at) (makes at o) old x
made at local o reg has old new x o_is has_is there reg_is h =
    h ∙ ap (λ (r : Reg). changed local (Poison r) old x) reg_is ∙ ap (λ (t : Bool). behind (regs at) (if t then Makes local else Other) old x) (sym (sym has_is ∙ there)) ∙ ap (λ (q : Option ℕ). behind (regs at) (makes at q) old x) (sym o_is)

pub stored : (at : ℕ → Option SlotRank) (local : ℕ) (address value copy : Operand) (has : Bool) (old new : Current) (x : ℕ) → address ≡ Local local → has ≡ is_there (at local) → has ≡ true → copy ≡ value
    → new x ≡ changed local copy old x → new x ≡ behind (regs at) (writes at value address) old x
stored at local address value copy has old new x address_is has_is there copy_is h =
    h ∙ ap (λ (v : Operand). changed local v old x) copy_is ∙ ap (λ (t : Bool). behind (regs at) (if t then Writes local value else Other) old x) (sym (sym has_is ∙ there)) ∙ ap (λ (a : Operand). behind (regs at) (writes at value a) old x) (sym address_is)

pub passed : (at : ℕ → Option SlotRank) (lines : List Line) (i : ℕ) (l : Line) (old new : Current) → i < length lines → l ≡ get_or lines i l → ((x : ℕ) → new x ≡ behind_line at l old x)
    → (x : ℕ) → behind_lines at new (drop (i + 1) lines) x ≡ behind_lines at old (drop i lines) x
passed at lines i l old new lt l_is h x =
    ap (λ (c : Current). behind_lines at c (drop (i + 1) lines) x) (λ j. λ y. h y j) ∙ ap (λ (ls : List Line). behind_lines at old ls x) (sym (drop_more lines i l lt ∙ ap (λ (y : Line). y ∷ drop (i + 1) lines) (sym l_is)))

pub line_pushed : (at : ℕ → Option SlotRank) (lines : List Line) (i : ℕ) (l : Line) (old new : Current) (rows rows' all : List Line) → i < length lines → l ≡ get_or lines i l
    → ((rest : List Line) → rows' ++ rest ≡ rows ++ (if goes at l.local l.instr then rest else record { local = l.local; instr = instr_with at old l.instr } ∷ rest)) → ((x : ℕ) → new x ≡ behind_line at l old x)
    → rows ++ without_slots at old (drop i lines) ≡ all → rows' ++ without_slots at new (drop (i + 1) lines) ≡ all
line_pushed at lines i l old new rows rows' all lt l_is pushed h before =
    ap (λ (c : Current). rows' ++ without_slots at c (drop (i + 1) lines)) (λ j. λ y. h y j) ∙ pushed (without_slots at (behind_line at l old) (drop (i + 1) lines))
    ∙ ap (λ (ls : List Line). rows ++ without_slots at old ls) (sym (drop_more lines i l lt ∙ ap (λ (y : Line). y ∷ drop (i + 1) lines) (sym l_is))) ∙ before

-- ---- ends of blocks

slice_left : {X : Type 0} (xs : List X) (y : X) (p : ℕ) → p < length xs → slice_get (xs ++ y ∷ []) p ≡ slice_get xs p
slice_left {X} [] y p lt = absurd (omega (arith, lt))
slice_left {X} (x ∷ xs) y zero lt = refl
slice_left {X} (x ∷ xs) y (suc p) lt = slice_left xs y p (omega (arith, lt))

slice_last : {X : Type 0} (xs : List X) (y : X) (p : ℕ) → p ≡ length xs → slice_get (xs ++ y ∷ []) p ≡ Some y
slice_last {X} [] y zero e = refl
slice_last {X} [] y (suc p) e = absurd (omega (arith, e))
slice_last {X} (x ∷ xs) y zero e = absurd (omega (arith, e))
slice_last {X} (x ∷ xs) y (suc p) e = slice_last xs y p (omega (arith, e))

first_is : (firsts : List (Option ℕ)) (p : ℕ) (d : Option ℕ) → p < length firsts → get_or firsts p d ≡ first_in firsts p
first_is [] p d lt = absurd (omega (arith, lt))
first_is (x ∷ firsts) zero d lt = refl
first_is (x ∷ firsts) (suc p) d lt = first_is firsts p d (omega (arith, lt))

pub ends_more : (at : ℕ → Option SlotRank) (olds news : List BlockEnd) (v : BlockEnd) (firsts : List (Option ℕ)) (d : Option ℕ) (blocks : List Block) (place : ℕ) (b : Block) → length olds ≡ place → length firsts ≡ length blocks → place < length blocks → b ≡ get_or blocks place b
    → news ≡ olds ++ v ∷ [] → end_view at v ≡ end_with at (get_or firsts place d) (Some b) → ((p : ℕ) → p < place → ends_in at olds p ≡ ends_with at (first_in firsts) blocks p)
    → (p : ℕ) → p < place + 1 → ends_in at news p ≡ ends_with at (first_in firsts) blocks p
ends_more at olds news v firsts d blocks place b long same lt b_is pushed v_is before p less = by (nat_eq p place) refl
  where
    inside : place < length firsts
    inside = omega (arith, same, lt)

    by : (t : Bool) → nat_eq p place ≡ t → ends_in at news p ≡ ends_with at (first_in firsts) blocks p
    by true e =
        let here : p ≡ place = eqb-true p place e in
        ap (λ (l : List BlockEnd). ends_in at l p) pushed ∙ ap (viewed at) (slice_last olds v p (omega (arith, here, long))) ∙ v_is
        ∙ ap (λ (o : Option ℕ). end_with at o (Some b)) (first_is firsts place d inside) ∙ ap (end_with at (first_in firsts place)) (sym (slice_get_read blocks (length blocks) place b refl lt b_is)) ∙ ap (λ (q : ℕ). ends_with at (first_in firsts) blocks q) (sym here)
    by false e =
        let other : p ≡ place → ⊥ = λ s. let t : true ≡ false = sym (eq-eqb p place s) ∙ e in absurd (cc t) in
        let lower : p < place = below p place less other in
        ap (λ (l : List BlockEnd). ends_in at l p) pushed ∙ ap (viewed at) (slice_left olds v p (omega (arith, lower, long))) ∙ before p lower
      where
        below : (p place : ℕ) → p < place + 1 → (p ≡ place → ⊥) → p < place
        below p place less other = omega (arith, less, other)

pub all_ends : (at : ℕ → Option SlotRank) (ends : List BlockEnd) (first : ℕ → Option ℕ) (blocks : List Block) (place : ℕ) → place ≡ length blocks → length ends ≡ place
    → ((p : ℕ) → p < place → ends_in at ends p ≡ ends_with at first blocks p) → (p : ℕ) → ends_in at ends p ≡ ends_with at first blocks p
all_ends at ends first blocks place is long h p = by (nat_lt p place) refl
  where
    by : (t : Bool) → nat_lt p place ≡ t → ends_in at ends p ≡ ends_with at first blocks p
    by true e = h p (ltb-true p place e)
    by false e =
        let le : place ≤ p = ltb-false p place e in
        ap (viewed at) (slice_get_past ends p (omega (arith, le, long))) ∙ ap (end_with at (first p)) (sym (slice_get_past blocks p (omega (arith, le, is))))

-- ---- blocks

pub block_pushed : (at : ℕ → Option SlotRank) (list : List Slot) (ends : ℕ → End) (from : ℕ → List ℕ) (firsts : List (Option ℕ)) (d : Option ℕ) (blocks : List Block) (place : ℕ) (rows rows' all : List Block) (b made' : Block) (edges : List ℕ)
    → place < length blocks → place < length firsts → b ≡ get_or blocks place b → edges ≡ from place → made' ≡ block_with at list ends edges (get_or firsts place d) b → rows' ≡ rows ++ made' ∷ []
    → rows ++ blocks_with at list ends from (first_in firsts) place (drop place blocks) ≡ all → rows' ++ blocks_with at list ends from (first_in firsts) (place + 1) (drop (place + 1) blocks) ≡ all
block_pushed at list ends from firsts d blocks place rows rows' all b made' edges lt inside b_is edges_is made_is pushed before =
    ap (λ (l : List Block). l ++ blocks_with at list ends from (first_in firsts) (place + 1) (drop (place + 1) blocks)) pushed
    ∙ append_assoc rows (made' ∷ []) (blocks_with at list ends from (first_in firsts) (place + 1) (drop (place + 1) blocks))
    ∙ (λ i. rows ++ (whole i ∷ blocks_with at list ends from (first_in firsts) (next i) (drop (place + 1) blocks)))
    ∙ ap (λ (l : List Block). rows ++ blocks_with at list ends from (first_in firsts) place l) (sym (drop_more blocks place b lt ∙ ap (λ (y : Block). y ∷ drop (place + 1) blocks) (sym b_is))) ∙ before
  where
    next : place + 1 ≡ suc place
    next = omega arith

    whole : made' ≡ block_with at list ends (from place) (first_in firsts place) b
    whole =
        made_is ∙ ap (λ (es : List ℕ). block_with at list ends es (get_or firsts place d) b) edges_is
        ∙ ap (λ (o : Option ℕ). block_with at list ends (from place) o b) (first_is firsts place d inside)

-- ---- the whole

-- the graph's rows are the edges, behind the last block too
rows_are : (f : Function) (graph : List (List ℕ)) → IsGraphOf f graph → (b : ℕ) → row graph b ≡ edges f b
rows_are f graph is b = by (nat_lt b (length f.blocks)) refl
  where
    by : (t : Bool) → nat_lt b (length f.blocks) ≡ t → row graph b ≡ edges f b
    by true e = is.same b (ltb-true b (length f.blocks) e)
    by false e =
        let le : length f.blocks ≤ b = ltb-false b (length f.blocks) e in
        get_or_past graph b [] (omega (arith, le, is.long)) ∙ sym (ap (leading_to f.blocks) (slice_get_past f.blocks b le))

pub whole_blocks : (at : ℕ → Option SlotRank) (list : List Slot) (from : ℕ → List ℕ) (first : ℕ → Option ℕ) (ends : List BlockEnd) (firsts : List (Option ℕ)) (old : List Block)
    → ((p : ℕ) → first_in firsts p ≡ first p) → ((p : ℕ) → ends_in at ends p ≡ ends_with at (first_in firsts) old p)
    → blocks_with at list (ends_in at ends) from (first_in firsts) 0 old ≡ blocks_with at list (ends_with at first old) from first 0 old
whole_blocks at list from first ends firsts old first_is ends_are = λ i. blocks_with at list (λ p. ends_now p i) from (λ p. first_is p i) 0 old
  where
    ends_now : (p : ℕ) → ends_in at ends p ≡ ends_with at first old p
    ends_now p = ends_are p ∙ ap (λ (o : Option ℕ). end_with at o (slice_get old p)) (first_is p)

pub whole_function : (f : Function) (at : ℕ → Option SlotRank) (list : List Slot) (graph : List (List ℕ)) (n : ℕ) (old : List Block)
    → ((x : ℕ) → at x ≡ placed 0 (promoted_slots f) x) → list ≡ promoted_slots f → IsGraphOf f graph → n ≡ next_number f → old ≡ f.blocks
    → blocks_with at list (ends_with at (first_phi (row graph) (length list) n) old) (row graph) (first_phi (row graph) (length list) n) 0 old ≡ (promoted_function f).blocks
whole_function f at list graph n old at_is list_is is n_is old_is = λ i.
    blocks_with (λ x. at_is x i) (list_is i) (ends_with (λ x. at_is x i) (first_phi (λ b. rows_are f graph is b i) (length (list_is i)) (n_is i)) (old_is i)) (λ b. rows_are f graph is b i) (first_phi (λ b. rows_are f graph is b i) (length (list_is i)) (n_is i)) 0 (old_is i)
