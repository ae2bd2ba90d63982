-- One join: the blocks that are left are those of the joined function.
use Rattle.std.proofs.Common.{◌≡◌, ◌≢◌, ℕ, suc, ◌+◌, nat_eq, Bool, true, false, List, [], ◌∷◌, ◌++◌, length, map, Option, Some, None, refl, sym, ◌∙◌, ap, subst, arith, if◌then◌else◌}
use Rattle.std.specs.Prelude.{◌&&◌, not, is_some}
use Rattle.std.specs.HashSet as hash_set
use Rattle.std.proofs.lemmas.Bool.{and_from, and_parts, eq-eqb, eqb-true, ne_eqb}
use Rattle.ir_tree.specs.Flow.{leading, successors}
use Rattle.ir_tree.specs.Formed.{Distinct, numbers}
use Rattle.ir_tree.specs.Rules.{place}
use Rattle.ir_tree.specs.declared.block.Block.{Block}
use Rattle.ir_tree.specs.declared.block.Terminator.{Terminator}
use Rattle.ir_tree.specs.declared.block.Terminator.TheVariants.{Branch, Jump, Return, Switch, Unreachable}
use Rattle.ir_tree.specs.declared.function.Function.{Function}
use Rattle.ir_tree.specs.declared.instr.Incoming.{Incoming}
use Rattle.ir_tree.specs.declared.instr.Line.{Line}
use Rattle.ir_tree.specs.declared.instr.Phi.{Phi}
use Rattle.ir_meaning.proofs.Counting.{numbers_in, place_is}
use Rattle.block_trim.specs.Merged.{CanJoin, IsFirst, IsOneOf, Joins, behind_entry, entry_named, joined, joined_block, joined_blocks, phi_named, renamed}
use Rattle.block_trim.specs.Working.{IsJoined, IsNumber, IsTurnOf, Joined, at_work, block_of, blocks_of, can_go, has_one_edge, left, may_go, naming, next, next_of, target_if, with_block}
use Rattle.block_trim.specs.declared.joining.Content.{Content}
use Rattle.block_trim.specs.declared.joining.Join.{Join}
use Rattle.block_trim.specs.declared.joining.Joining.{Joining}
use Rattle.block_trim.proofs.Weights.{counted, leading_left, out_of, weigh, weigh_changed}
use Rattle.block_trim.proofs.Left.{Goes, NextWas, Stands, WasBefore, entry_stays, goes, next_was, stands, there}
use Rattle.block_trim.proofs.Start.{takes}
use Rattle.block_trim.proofs.Turns.{not_below}

-- ---- names

naming_later : (js : List Join) (j : Join) (n : ℕ) → naming (js ++ j ∷ []) n ≡ renamed j.second j.first (naming js n)
naming_later [] j n = refl
naming_later (i ∷ js) j n = naming_later js j (renamed i.second i.first n)

module _ (name then' both : ℕ → ℕ) (is : (n : ℕ) → both n ≡ then' (name n)) where
  entries_twice : (es : List Incoming) → map (entry_named both) es ≡ map (entry_named then') (map (entry_named name) es)
  entries_twice [] = refl
  entries_twice (e ∷ es) = λ i. record e { from = is e.from i } ∷ entries_twice es i

  phis_twice : (ps : List Phi) → map (phi_named both) ps ≡ map (phi_named then') (map (phi_named name) ps)
  phis_twice [] = refl
  phis_twice (p ∷ ps) = λ i. record p { incoming = entries_twice p.incoming i } ∷ phis_twice ps i

-- ---- blocks

module _ (name both : ℕ → ℕ) (old new : ℕ → Option Content) (first : ℕ) (y : Block) (a b c : Content) (apart : first ≢ y.number)
    (named : (n : ℕ) → both n ≡ renamed y.number first (name n))
    (first_left : old first ≡ Some a) (second_lines : y.lines ≡ b.lines) (second_end : y.end ≡ b.end)
    (lines : c.lines ≡ a.lines ++ b.lines) (end : c.end ≡ b.end)
    (now : (n : ℕ) → new n ≡ (if nat_eq first n then Some c else if nat_eq y.number n then None else old n)) where
  abbrev after : Bool → Bool → Option Content → Option Content
  after u v o = if u then Some c else if v then None else o

  grown : (x : Block) → nat_eq first x.number ≡ true → block_of both x c ≡ joined_block first y (block_of name x a)
  grown x e = λ i. record {
    number = x.number;
    phis = phis_twice name (renamed y.number first) both named x.phis i;
    lines = all i;
    end = last i;
  }
    where
      all : c.lines ≡ (if nat_eq first x.number then a.lines ++ y.lines else a.lines)
      all = lines ∙ ap (λ (l : List Line). a.lines ++ l) (sym second_lines) ∙ ap (λ (t : Bool). if t then a.lines ++ y.lines else a.lines) (sym e)

      last : c.end ≡ (if nat_eq first x.number then y.end else a.end)
      last = end ∙ sym second_end ∙ ap (λ (t : Bool). if t then y.end else a.end) (sym e)

  same : (x : Block) (d : Content) → nat_eq first x.number ≡ false → block_of both x d ≡ joined_block first y (block_of name x d)
  same x d e = λ i. record {
    number = x.number;
    phis = phis_twice name (renamed y.number first) both named x.phis i;
    lines = all i;
    end = last i;
  }
    where
      all : d.lines ≡ (if nat_eq first x.number then d.lines ++ y.lines else d.lines)
      all = ap (λ (t : Bool). if t then d.lines ++ y.lines else d.lines) (sym e)

      last : d.end ≡ (if nat_eq first x.number then y.end else d.end)
      last = ap (λ (t : Bool). if t then y.end else d.end) (sym e)

  kept : (x : Block) (d : Content) (z : Block) (rest rest' : List Block) → nat_eq y.number x.number ≡ false → z ≡ joined_block first y (block_of name x d) → rest' ≡ joined_blocks first y rest
      → z ∷ rest' ≡ joined_blocks first y (block_of name x d ∷ rest)
  kept x d z rest rest' e h g =
      (λ i. h i ∷ g i)
      ∙ ap (λ (t : Bool). if t then joined_blocks first y rest else joined_block first y (block_of name x d) ∷ joined_blocks first y rest) (sym e)

  pub blocks_joined : (bs : List Block) → blocks_of both new bs ≡ joined_blocks first y (blocks_of name old bs)
  blocks_joined [] = refl
  blocks_joined (x ∷ bs) =
      ap (λ (o : Option Content). with_block both x o (blocks_of both new bs)) (now x.number)
      ∙ by (nat_eq first x.number) (nat_eq y.number x.number) (old x.number) refl refl refl (blocks_joined bs)
    where
      by : (u v : Bool) (o : Option Content) → nat_eq first x.number ≡ u → nat_eq y.number x.number ≡ v → old x.number ≡ o → blocks_of both new bs ≡ joined_blocks first y (blocks_of name old bs)
          → with_block both x (after u v o) (blocks_of both new bs) ≡ joined_blocks first y (with_block name x o (blocks_of name old bs))
      by true v o e g h rest =
          let is : first ≡ x.number = eqb-true first x.number e in
          let was : o ≡ Some a = sym h ∙ ap old (sym is) ∙ first_left in
          let other : nat_eq y.number x.number ≡ false = ne_eqb y.number x.number (λ s. apart (is ∙ sym s)) in
          kept x a (block_of both x c) (blocks_of name old bs) (blocks_of both new bs) other (grown x e) rest
          ∙ ap (λ (p : Option Content). joined_blocks first y (with_block name x p (blocks_of name old bs))) (sym was)
      by false true None e g h rest = rest
      by false true (Some d) e g h rest =
          rest ∙ ap (λ (t : Bool). if t then joined_blocks first y (blocks_of name old bs) else joined_block first y (block_of name x d) ∷ joined_blocks first y (blocks_of name old bs)) (sym g)
      by false false None e g h rest = rest
      by false false (Some d) e g h rest = kept x d (block_of both x d) (blocks_of name old bs) (blocks_of both new bs) g (same x d e) rest

-- ---- the second block

abbrev pub IsSecond : Joining → Function → Content → ℕ → Type 0
IsSecond j f b n = (z : Block) × (z.number ≡ n) × (z.phis ≡ []) × (has_one_edge f.blocks n ≡ true) × IsNumber f.blocks n × IsOneOf (behind_entry (at_work j f).blocks) (block_of (naming j.joins.items) z b)

pub second_there : (f : Function) (j : Joining) → Distinct (numbers f) → Joined f j → (b : Content) (n : ℕ) → left j n ≡ Some b → may_go (has_one_edge f.blocks) (behind_entry f.blocks) n ≡ true → IsSecond j f b n
second_there f j once was b n is may = by f.blocks refl
  where
    by : (bs : List Block) → f.blocks ≡ bs → IsSecond j f b n
    by [] e = let clash : false ≡ true = sym (ap (λ (l : List Block). may_go (has_one_edge f.blocks) (behind_entry l) n) e) ∙ may in absurd (cc clash)
    by (x ∷ bs) e = at (goes (has_one_edge f.blocks) bs n (sym (ap (λ (l : List Block). may_go (has_one_edge f.blocks) (behind_entry l) n) e) ∙ may)) (left j x.number) refl
      where
        stays : left j x.number ≢ None
        stays = was.stays x (subst (λ (l : List Block). IsOneOf l x) (sym e) (0, refl))
            (ap (λ (l : List Block). may_go (has_one_edge f.blocks) (behind_entry l) x.number) e ∙ entry_stays (has_one_edge f.blocks) x bs (subst (λ (l : List Block). Distinct (numbers_in l)) e once))

        at : Goes (has_one_edge f.blocks) bs n → (o : Option Content) → left j x.number ≡ o → IsSecond j f b n
        at g None h = absurd (stays h)
        at (z, (i, z_at), number, no_phis, one) (Some c) h =
            let found : IsOneOf (blocks_of (naming j.joins.items) (left j) bs) (block_of (naming j.joins.items) z b) = there (naming j.joins.items) (left j) bs z b (i, z_at) (ap (left j) number ∙ is) in
            let whole : blocks_of (naming j.joins.items) (left j) f.blocks ≡ block_of (naming j.joins.items) x c ∷ blocks_of (naming j.joins.items) (left j) bs =
            ap (blocks_of (naming j.joins.items) (left j)) e ∙ ap (λ (o : Option Content). with_block (naming j.joins.items) x o (blocks_of (naming j.joins.items) (left j) bs)) h in (
              z,
              number,
              no_phis,
              ap (has_one_edge f.blocks) (sym number) ∙ one,
              (z, subst (λ (l : List Block). IsOneOf l z) (sym e) (suc i, z_at), number),
              subst (λ (l : List Block). IsOneOf (behind_entry l) (block_of (naming j.joins.items) z b)) (sym whole) found,
            )

-- ---- what is left

module _ (old new : Joining) (first second : ℕ) (a b : Content) (first_left : left old first ≡ Some a) (made : IsJoined old new first second a b) where
  -- what is left now was left
  pub was_left : (n : ℕ) → left new n ≢ None → left old n ≢ None
  was_left n some e = by (nat_eq first n) refl
    where
      at : (t : Bool) → (if t then None else left old n) ≡ None
      at true = refl
      at false = e

      by : (t : Bool) → nat_eq first n ≡ t → ⊥
      by true h = let clash : Some a ≡ None = sym first_left ∙ ap (left old) (eqb-true first n h) ∙ e in absurd (cc clash)
      by false h = some (made.left n ∙ ap (λ (t : Bool). if t then Some made.content else if nat_eq second n then None else left old n) h ∙ at (nat_eq second n))

  still_there : (t : ℕ) → is_some (left new t) ≡ true → is_some (left old t) ≡ true
  still_there t h = by (left new t) refl h (was_left t)
    where
      some : (o : Option Content) → (o ≢ None) → is_some o ≡ true
      some None h = absurd (h refl)
      some (Some c) h = refl

      by : (o : Option Content) → left new t ≡ o → is_some o ≡ true → (left new t ≢ None → left old t ≢ None) → is_some (left old t) ≡ true
      by None e h more = absurd cc
      by (Some c) e h more = some (left old t) (more (λ g. let clash : Some c ≡ None = sym e ∙ g in absurd (cc clash)))

  could_go : (n t : ℕ) → can_go new n t ≡ true → can_go old n t ≡ true
  could_go n t h =
      let parts = and_parts (not (nat_eq t n) && hash_set.contains nat_eq new.candidates t) (is_some (left new t)) h in
      and_from (not (nat_eq t n) && hash_set.contains nat_eq old.candidates t) (is_some (left old t))
      (subst (λ (x : Joining). (not (nat_eq t n) && hash_set.contains nat_eq x.candidates t) ≡ true) (λ i. record new { candidates = made.candidates i }) parts.0) (still_there t parts.1)

  target_none : (p q : ℕ → Bool) → ((t : ℕ) → q t ≡ true → p t ≡ true) → (e : Terminator) → target_if p e ≡ None → target_if q e ≡ None
  target_none p q h (Jump t) e = by (p t) (q t) refl refl e
    where
      by : (u v : Bool) → p t ≡ u → q t ≡ v → (if u then Some t else None) ≡ None → (if v then Some t else None) ≡ None
      by u false x z e = refl
      by true true x z e = e
      by false true x z e = let clash : false ≡ true = sym x ∙ h t z in absurd (cc clash)
  target_none p q h (Return x) e = refl
  target_none p q h (Branch c t f) e = refl
  target_none p q h (Switch w v d cs) e = refl
  target_none p q h Unreachable e = refl

  next_none : (n : ℕ) (o : Option Content) → next_of (can_go old n) o ≡ None → next_of (can_go new n) o ≡ None
  next_none n None e = refl
  next_none n (Some c) e = target_none (can_go old n) (can_go new n) (could_go n) c.end e

  -- a block into which none could go is such a block still
  pub others_done : (n : ℕ) → n ≢ first → next old n ≡ None → next new n ≡ None
  others_done n ne none = ap (next_of (can_go new n)) (made.left n ∙ ap (λ (t : Bool). if t then Some made.content else if nat_eq second n then None else left old n) (ne_eqb first n (λ s. ne (sym s)))) ∙ by (nat_eq second n)
    where
      by : (t : Bool) → next_of (can_go new n) (if t then None else left old n) ≡ None
      by true = refl
      by false = next_none n (left old n) none

-- ---- one join

module _ (f : Function) (once : Distinct (numbers f)) (old new : Joining) (first second : ℕ) (a b : Content) (was : Joined f old) (is_next : next old first ≡ Some second)
    (first_left : left old first ≡ Some a) (second_left : left old second ≡ Some b) (made : IsJoined old new first second a b) (turn : IsTurnOf f old first) where
  step : (c : Content) × (left old first ≡ Some c) × (c.end ≡ Jump second) × (can_go old first second ≡ true)
  step = next_was (can_go old first) (left old first) second is_next

  jumps : a.end ≡ Jump second
  jumps = let same : Some step.0 ≡ Some a = sym step.1 ∙ first_left in let is : step.0 ≡ a = cc same in ap (λ (c : Content). c.end) (sym is) ∙ step.2

  parts : ((not (nat_eq second first) && hash_set.contains nat_eq old.candidates second) ≡ true) × (is_some (left old second) ≡ true)
  parts = and_parts (not (nat_eq second first) && hash_set.contains nat_eq old.candidates second) (is_some (left old second)) step.3

  inner : (not (nat_eq second first) ≡ true) × (hash_set.contains nat_eq old.candidates second ≡ true)
  inner = and_parts (not (nat_eq second first)) (hash_set.contains nat_eq old.candidates second) parts.0

  apart : second ≢ first
  apart e = let clash : false ≡ true = ap not (sym (eq-eqb second first e)) ∙ inner.0 in absurd (cc clash)

  may : may_go (has_one_edge f.blocks) (behind_entry f.blocks) second ≡ true
  may = sym (was.candidates second) ∙ inner.1

  there' : IsSecond old f b second
  there' = second_there f old once was b second second_left may

  abbrev y : Block
  y = block_of (naming old.joins.items) there'.0 b

  all_joined : (at_work new f).blocks ≡ joined_blocks first y (at_work old f).blocks
  all_joined =
      blocks_joined (naming old.joins.items) (naming new.joins.items) (left old) (left new) first y a b made.content (λ s. apart (sym there'.1 ∙ sym s))
      (λ n. ap (λ (js : List Join). naming js n) made.joins ∙ naming_later old.joins.items (record { first = first; second = second }) n
      ∙ ap (λ (m : ℕ). renamed m first (naming old.joins.items n)) (sym there'.1)) first_left refl refl made.lines made.end
      (λ n. made.left n ∙ ap (λ (m : ℕ). if nat_eq first n then Some made.content else if nat_eq m n then None else left old n) (sym there'.1)) f.blocks

  one_edge : length (leading second 0 f.blocks) ≡ 1
  one_edge = eqb-true (length (leading second 0 f.blocks)) 1 there'.3

  is_left : left old second ≢ None
  is_left e = let clash : Some b ≡ None = sym second_left ∙ e in absurd (cc clash)

  known : IsNumber f.blocks first
  known = was.known first a first_left

  standing : Stands f.blocks (at_work old f).blocks known.1.0 (block_of (naming old.joins.items) known.0 a)
  standing = stands (naming old.joins.items) (left old) f.blocks known.1.0 known.0 a known.1.1 (ap (left old) known.2 ∙ first_left)

  abbrev can : CanJoin (at_work old f) (block_of (naming old.joins.items) known.0 a) y
  can = record {
    first = (standing.place, standing.at);
    second = there'.5;
    jumps = jumps ∙ ap Jump (sym there'.1);
    other = λ e. apart (sym there'.1 ∙ e ∙ known.2);
    only = ap (λ (n : ℕ). length (leading n 0 (at_work old f).blocks)) there'.1 ∙ was.edges second is_left ∙ one_edge;
    no_phis = ap (map (phi_named (naming old.joins.items))) there'.2;
  }

  -- no block before it can take another one
  is_first : IsFirst (at_work old f) standing.place
  is_first x z other = not_below standing.place other.first.0 (λ lt. earlier (standing.before other.first.0 x lt other.first.1))
    where
      earlier : WasBefore f.blocks known.1.0 x → ⊥
      earlier (m, c, lt, at, number) =
          let here : place f.blocks first ≡ known.1.0 = ap (place f.blocks) (sym known.2) ∙ place_is f.blocks once known.1.0 known.0 known.1.1 in
          takes f old once was x z other (ap (next old) number ∙ turn m c (omega (arith, lt, here)) at)

  joins_now : (k : ℕ) × Joins k f (at_work new f)
  joins_now = (
    suc was.joins.0,
    (
      at_work old f,
      block_of (naming old.joins.items) known.0 a,
      y,
      was.joins.1,
      can,
      is_first,
      (λ i. record f { blocks = all_joined i }) ∙ ap (λ (n : ℕ). joined n y (at_work old f)) (sym known.2),
    ),
  )

  -- ---- edges

  module _ (n : ℕ) (other : nat_eq second n ≡ false) where
    abbrev w : ℕ → ℕ
    w m = out_of n (left old m)

    abbrev middle : ℕ → ℕ
    middle m = if nat_eq first m then out_of n (Some b) else w m

    abbrev v : ℕ → ℕ
    v m = out_of n (left new m)

    v_first : v first ≡ out_of n (Some b)
    v_first = ap (out_of n) (made.left first ∙ ap (λ (t : Bool). if t then Some made.content else if nat_eq second first then None else left old first) (eq-eqb first first refl)) ∙ ap (λ (t : Terminator). counted n (successors t) 0) made.end

    v_second : v second ≡ 0
    v_second =
        ap (out_of n)
        (made.left second ∙ ap (λ (t : Bool). if t then Some made.content else if nat_eq second second then None else left old second) (ne_eqb first second (λ s. apart (sym s)))
        ∙ ap (λ (t : Bool). if t then None else left old second) (eq-eqb second second refl))

    v_middle : (m : ℕ) → nat_eq second m ≡ false → v m ≡ middle m
    v_middle m e = by (nat_eq first m) refl
      where
        by : (t : Bool) → nat_eq first m ≡ t → v m ≡ middle m
        by true h = ap v (sym (eqb-true first m h)) ∙ v_first ∙ ap (λ (t : Bool). if t then out_of n (Some b) else w m) (sym h)
        by false h =
            ap (out_of n)
            (made.left m ∙ ap (λ (t : Bool). if t then Some made.content else if nat_eq second m then None else left old m) h
            ∙ ap (λ (t : Bool). if t then None else left old m) e)
            ∙ ap (λ (t : Bool). if t then out_of n (Some b) else w m) (sym h)

    w_first : w first ≡ 0
    w_first = ap (out_of n) first_left ∙ ap (λ (t : Terminator). counted n (successors t) 0) jumps ∙ ap (λ (t : Bool). if t then 1 else 0) other

    edges_stay : length (leading n 0 (at_work new f).blocks) ≡ length (leading n 0 (at_work old f).blocks)
    edges_stay =
        let new_is : length (leading n 0 (at_work new f).blocks) ≡ weigh v f.blocks = leading_left (naming new.joins.items) (left new) n 0 f.blocks in
        let old_is : length (leading n 0 (at_work old f).blocks) ≡ weigh w f.blocks = leading_left (naming old.joins.items) (left old) n 0 f.blocks in
        let one : weigh middle f.blocks + w first ≡ weigh w f.blocks + middle first =
        weigh_changed middle w first (λ m e. ap (λ (t : Bool). if t then out_of n (Some b) else w m) e) f.blocks once known in
        let two : weigh v f.blocks + middle second ≡ weigh middle f.blocks + v second = weigh_changed v middle second v_middle f.blocks once there'.4 in
        let three : middle first ≡ out_of n (Some b) = ap (λ (t : Bool). if t then out_of n (Some b) else w first) (eq-eqb first first refl) in
        let four : middle second ≡ w second = ap (λ (t : Bool). if t then out_of n (Some b) else w second) (ne_eqb first second (λ s. apart (sym s))) in
        let five : w second ≡ out_of n (Some b) = ap (out_of n) second_left in
        let six : v second ≡ 0 = v_second in
        let seven : w first ≡ 0 = w_first in
        omega (arith, new_is, old_is, one, two, three, four, five, six, seven)

  -- ---- what is left

  not_second : (n : ℕ) → left new n ≢ None → nat_eq second n ≡ false
  not_second n some = ne_eqb second n (λ s. some (ap (left new) (sym s) ∙ made.left second
      ∙ ap (λ (t : Bool). if t then Some made.content else if nat_eq second second then None else left old second) (ne_eqb first second (λ s. apart (sym s)))
      ∙ ap (λ (t : Bool). if t then None else left old second) (eq-eqb second second refl)))

  left_still : (n : ℕ) → nat_eq second n ≡ false → left old n ≢ None → left new n ≢ None
  left_still n other some e = by (nat_eq first n) refl
    where
      by : (t : Bool) → nat_eq first n ≡ t → ⊥
      by true h =
          let clash : Some made.content ≡ None = sym (made.left n ∙ ap (λ (t : Bool). if t then Some made.content else if nat_eq second n then None else left old n) h) ∙ e in
          absurd (cc clash)
      by false h = some (sym (made.left n ∙ ap (λ (t : Bool). if t then Some made.content else if nat_eq second n then None else left old n) h ∙ ap (λ (t : Bool). if t then None else left old n) other) ∙ e)

  known_now : (n : ℕ) (c : Content) → left new n ≡ Some c → IsNumber f.blocks n
  known_now n c e = by (left old n) refl
    where
      by : (o : Option Content) → left old n ≡ o → IsNumber f.blocks n
      by None h = absurd (was_left old new first second a b first_left made n (λ g. let clash : Some c ≡ None = sym e ∙ g in absurd (cc clash)) h)
      by (Some d) h = was.known n d h

  pub joined_now : Joined f new
  joined_now = record {
    joins = joins_now;
    candidates = λ n. (λ i. hash_set.contains nat_eq (made.candidates i) n) ∙ was.candidates n;
    known = known_now;
    stays = λ x is no. left_still x.number (ne_eqb second x.number (λ s. let clash : true ≡ false = sym may ∙ ap (may_go (has_one_edge f.blocks) (behind_entry f.blocks)) s ∙ no in absurd (cc clash))) (was.stays x is no);
    edges = λ n some. edges_stay n (not_second n some) ∙ was.edges n (was_left old new first second a b first_left made n some);
  }

-- ---- what goes

pub record Parts (j : Joining) (first second : ℕ) : Type 0 where
  pub a : Content
  pub b : Content
  pub apart : first ≢ second
  pub first_left : left j first ≡ Some a
  pub second_left : left j second ≡ Some b

pub parts_of : (j : Joining) (first second : ℕ) → next j first ≡ Some second → Parts j first second
parts_of j first second e = by (left j second) refl parts.1
  where
    step : NextWas (can_go j first) (left j first) second
    step = next_was (can_go j first) (left j first) second e

    parts : ((not (nat_eq second first) && hash_set.contains nat_eq j.candidates second) ≡ true) × (is_some (left j second) ≡ true)
    parts = and_parts (not (nat_eq second first) && hash_set.contains nat_eq j.candidates second) (is_some (left j second)) step.3

    inner : (not (nat_eq second first) ≡ true) × (hash_set.contains nat_eq j.candidates second ≡ true)
    inner = and_parts (not (nat_eq second first)) (hash_set.contains nat_eq j.candidates second) parts.0

    apart : first ≢ second
    apart s = let clash : false ≡ true = ap not (sym (eq-eqb second first (sym s))) ∙ inner.0 in absurd (cc clash)

    by : (o : Option Content) → left j second ≡ o → is_some o ≡ true → Parts j first second
    by None e h = absurd cc
    by (Some c) e h = record { a = step.0; b = c; apart = apart; first_left = step.1; second_left = e }
