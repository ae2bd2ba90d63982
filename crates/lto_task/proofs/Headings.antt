-- What the lines of a unit's text say, and that they say one thing.
use Rattle.std.proofs.Common.{◌≡◌, ◌∙◌, ℕ, ◌/◌, ◌%◌, ◌<◌, ◌^◌, Bool, true, false, cond, List, [], ◌∷◌, ◌++◌, length, Option, Some, None, append_assoc, codes, arith, refl, sym, ap, ap₂, subst}
use Rattle.std.proofs.lemmas.List.Elements.{All-head, All-tail}
use Rattle.std.proofs.lemmas.Bool.{and_parts, false≢true}
use Rattle.std.proofs.lemmas.List.{append_cancel_left}
use Rattle.std.proofs.lemmas.Fmt.{decimal_injective}
use Rattle.std.specs.Fmt.{decimal}
use Rattle.std.specs.List.{All, flat_map, list_all}
use Rattle.std.specs.Option.{MatchOption}
use Rattle.ir_tree.specs.Names.{AllBytes, escaped, hex_digit, is_bare, is_name_byte, is_name_start, is_plain, quoted, unquoted}
use Rattle.ir_tree.proofs.NamesAgain.{quoted_again}
use Rattle.lto_task.specs.Splits.{Lacks}
use Rattle.lto_task.specs.Units.{head, name_line, name_text}
use Rattle.lto_task.proofs.Numbers.{decimal_no_blank, decimal_no_line_feed, number_one}
use Rattle.lto_task.proofs.Splitting.{first_split_one}

-- ---- names have no line feeds

plain_so : (c : ℕ) → is_plain c ≡ true → c ≡ 10 → ⊥
plain_so c plain e = false≢true (subst (λ (x : ℕ). is_plain x ≡ true) e plain)

digit_so : (d : ℕ) → d < 16 → hex_digit d ≡ 10 → ⊥
digit_so d lt e = grind arith

escaped_lacks : (name : List ℕ) → AllBytes name → Lacks 10 (escaped name)
escaped_lacks [] all = tt
escaped_lacks (c ∷ cs) all = by (is_plain c) refl (escaped_lacks cs all.1)
  where
    by : (b : Bool) → is_plain c ≡ b → Lacks 10 (escaped cs) → Lacks 10 (cond b (c ∷ escaped cs) (92 ∷ hex_digit (c / 16) ∷ hex_digit (c % 16) ∷ escaped cs))
    by true plain rest = (plain_so c plain, rest)
    by false other rest =
        let byte : c < 256 = all.0 in
        ((λ e. cc e), (digit_so (c / 16) (omega (arith, byte)), (digit_so (c % 16) (omega arith), rest)))

pub lacks_append : (c : ℕ) (xs ys : List ℕ) → Lacks c xs → Lacks c ys → Lacks c (xs ++ ys)
lacks_append c [] ys one other = other
lacks_append c (x ∷ xs) ys one other = (one.0, lacks_append c xs ys one.1 other)

start_so : (c : ℕ) → is_name_start c ≡ true → c ≡ 10 → ⊥
start_so c start e = false≢true (subst (λ (x : ℕ). is_name_start x ≡ true) e start)

byte_so : (c : ℕ) → is_name_byte c ≡ true → c ≡ 10 → ⊥
byte_so c byte e = false≢true (subst (λ (x : ℕ). is_name_byte x ≡ true) e byte)

bytes_so : (cs : List ℕ) → list_all is_name_byte cs ≡ true → Lacks 10 cs
bytes_so [] all = tt
bytes_so (c ∷ cs) all = let both = and_parts (is_name_byte c) (list_all is_name_byte cs) all in (byte_so c both.0, bytes_so cs both.1)

bare_lacks : (name : List ℕ) → is_bare name ≡ true → Lacks 10 name
bare_lacks [] bare = tt
bare_lacks (c ∷ cs) bare = let both = and_parts (is_name_start c) (list_all is_name_byte cs) bare in (start_so c both.0, bytes_so cs both.1)

pub quoted_lacks : (name : List ℕ) → AllBytes name → Lacks 10 (quoted name)
unfolding quoted
quoted_lacks name all = by (is_bare name) refl
  where
    by : (b : Bool) → is_bare name ≡ b → Lacks 10 (cond b name (34 ∷ (escaped name ++ 34 ∷ [])))
    by true bare = bare_lacks name bare
    by false other = ((λ e. cc e), lacks_append 10 (escaped name) (34 ∷ []) (escaped_lacks name all) ((λ e. cc e), tt))

pub text_lacks : (name : List ℕ) → AllBytes name → Lacks 10 (name_text name)
text_lacks name all = ((λ e. cc e), quoted_lacks name all)

-- ---- names are one

pub quoted_one : (m n : List ℕ) → AllBytes m → AllBytes n → quoted m ≡ quoted n → m ≡ n
quoted_one m n all also same = let e : Some m ≡ Some n = sym (quoted_again m all) ∙ ap unquoted same ∙ quoted_again n also in cc

-- a name, its line feed and the rest
pub line_is : (n more : List ℕ) → name_line n ++ more ≡ name_text n ++ (10 ∷ more)
line_is n more = append_assoc (name_text n) (10 ∷ []) more

pub name_line_one : (m n xs ys : List ℕ) → AllBytes m → AllBytes n → name_line m ++ xs ≡ name_line n ++ ys → (m ≡ n) × (xs ≡ ys)
name_line_one m n xs ys all also same =
    let parts = first_split_one 10 (name_text m) xs (name_text n) ys (text_lacks m all) (text_lacks n also) (sym (line_is m xs) ∙ same ∙ line_is n ys) in
    (quoted_one m n all also (append_cancel_left (64 ∷ []) (quoted m) (quoted n) parts.0), parts.1)

-- what a line says behind its sigil
pub named : (old line new written : List ℕ) (o : Option (List ℕ)) → Lacks 10 line → old ≡ line ++ (10 ∷ new) → line ≡ 64 ∷ written
    → MatchOption o ((n : List ℕ) → AllBytes n → written ≡ quoted n → ⊥) (λ n. AllBytes n × (written ≡ quoted n))
    → MatchOption o ((n more : List ℕ) → AllBytes n → old ≡ name_line n ++ more → ⊥) (λ n. AllBytes n × (old ≡ name_line n ++ new))
named old line new written None lacks is sigil h = λ n more all also.
    let parts = first_split_one 10 line new (name_text n) more lacks (text_lacks n all) (sym is ∙ also ∙ line_is n more) in
    h n all (append_cancel_left (64 ∷ []) written (quoted n) (sym sigil ∙ parts.0))
named old line new written (Some n) lacks is sigil h = (
  h.0,
  is ∙ ap (λ (l : List ℕ). l ++ (10 ∷ new)) (sigil ∙ ap (λ (l : List ℕ). 64 ∷ l) h.1) ∙ sym (line_is n new),
)

-- ---- the first line

pub head_is : (n : List ℕ) (r b : ℕ) → head n r b ≡ codes "def @" ++ ((quoted n ++ (32 ∷ decimal r)) ++ (32 ∷ decimal b))
head_is n r b = ap (λ (t : List ℕ). codes "def @" ++ t) (sym (append_assoc (quoted n) (32 ∷ decimal r) (32 ∷ decimal b)))

pub rest_of : (line rest n : List ℕ) (r b : ℕ) → line ≡ codes "def @" ++ rest → line ≡ head n r b → rest ≡ (quoted n ++ (32 ∷ decimal r)) ++ (32 ∷ decimal b)
rest_of line rest n r b is also = append_cancel_left (codes "def @") rest ((quoted n ++ (32 ∷ decimal r)) ++ (32 ∷ decimal b)) (sym is ∙ also ∙ head_is n r b)

-- what stands before a number is one, and so is the number
pub front_of : (rest front other : List ℕ) (m b : ℕ) → m < 2 ^ 64 → rest ≡ front ++ (32 ∷ decimal m) → b < 2 ^ 64 → rest ≡ other ++ (32 ∷ decimal b) → front ≡ other
front_of rest front other m b small is least also = (number_one rest front (decimal m) other b (decimal_no_blank m small) is least also).0

pub head_lacks : (n : List ℕ) (r b : ℕ) → AllBytes n → r < 2 ^ 64 → b < 2 ^ 64 → Lacks 10 (head n r b)
head_lacks n r b all small least =
    lacks_append 10 (codes "def ") (name_text n ++ (32 ∷ (decimal r ++ (32 ∷ decimal b)))) ((λ e. cc e), ((λ e. cc e), ((λ e. cc e), ((λ e. cc e), tt))))
    (lacks_append 10 (name_text n) (32 ∷ (decimal r ++ (32 ∷ decimal b))) (text_lacks n all)
    ((λ e. cc e), lacks_append 10 (decimal r) (32 ∷ decimal b) (decimal_no_line_feed r small) ((λ e. cc e), decimal_no_line_feed b least)))

pub head_one : (m n : List ℕ) (q r a b : ℕ) → AllBytes m → AllBytes n → q < 2 ^ 64 → r < 2 ^ 64 → a < 2 ^ 64 → b < 2 ^ 64 → head m q a ≡ head n r b → (m ≡ n) × (q ≡ r) × (a ≡ b)
head_one m n q r a b all also sq sr sa sb same =
    let rest = rest_of (head m q a) ((quoted m ++ (32 ∷ decimal q)) ++ (32 ∷ decimal a)) n r b (head_is m q a) same in
    let outer = number_one ((quoted m ++ (32 ∷ decimal q)) ++ (32 ∷ decimal a)) (quoted m ++ (32 ∷ decimal q)) (decimal a) (quoted n ++ (32 ∷ decimal r)) b (decimal_no_blank a sa) refl sb rest in
    let inner = number_one (quoted m ++ (32 ∷ decimal q)) (quoted m) (decimal q) (quoted n) r (decimal_no_blank q sq) refl sr outer.0 in
    (quoted_one m n all also inner.0, decimal_injective q r sq sr inner.1, decimal_injective a b sa sb outer.1)

-- ---- names, line by line

abbrev Names : List (List ℕ) → List ℕ
Names = flat_map name_line

-- behind fewer names stands the next one
pub next_name : (ms : List (List ℕ)) (rest : List ℕ) (ns : List (List ℕ)) (more : List ℕ) → All AllBytes ms → All AllBytes ns → length ms < length ns → Names ms ++ rest ≡ Names ns ++ more
    → (n left : List ℕ) × AllBytes n × (rest ≡ name_line n ++ left)
next_name [] rest [] more all also less same = absurd (omega (arith, less))
next_name [] rest (n ∷ ns) more all also less same = (n, Names ns ++ more, All-head AllBytes n ns also, same ∙ append_assoc (name_line n) (Names ns) more)
next_name (m ∷ ms) rest [] more all also less same = absurd (omega (arith, less))
next_name (m ∷ ms) rest (n ∷ ns) more all also less same =
    let parts =
    name_line_one m n (Names ms ++ rest) (Names ns ++ more) (All-head AllBytes m ms all) (All-head AllBytes n ns also)
    (sym (append_assoc (name_line m) (Names ms) rest) ∙ same ∙ append_assoc (name_line n) (Names ns) more) in
    next_name ms rest ns more (All-tail AllBytes m ms all) (All-tail AllBytes n ns also) (omega (arith, less)) parts.1

pub names_one : (ms : List (List ℕ)) (rest : List ℕ) (ns : List (List ℕ)) (more : List ℕ) → All AllBytes ms → All AllBytes ns → length ms ≡ length ns → Names ms ++ rest ≡ Names ns ++ more → (ms ≡ ns) × (rest ≡ more)
names_one [] rest [] more all also even same = (refl, same)
names_one [] rest (n ∷ ns) more all also even same = absurd (omega (arith, even))
names_one (m ∷ ms) rest [] more all also even same = absurd (omega (arith, even))
names_one (m ∷ ms) rest (n ∷ ns) more all also even same =
    let parts =
    name_line_one m n (Names ms ++ rest) (Names ns ++ more) (All-head AllBytes m ms all) (All-head AllBytes n ns also)
    (sym (append_assoc (name_line m) (Names ms) rest) ∙ same ∙ append_assoc (name_line n) (Names ns) more) in
    let others = names_one ms rest ns more (All-tail AllBytes m ms all) (All-tail AllBytes n ns also) (omega (arith, even)) parts.1 in
    (ap₂ (λ (x : List ℕ). λ (xs : List (List ℕ)). x ∷ xs) parts.0 others.0, others.1)

-- ---- bytes of a length

pub texts_one : (xs ys us vs : List ℕ) → length xs ≡ length us → xs ++ ys ≡ us ++ vs → (xs ≡ us) × (ys ≡ vs)
texts_one [] ys [] vs even same = (refl, same)
texts_one [] ys (u ∷ us) vs even same = absurd (omega (arith, even))
texts_one (x ∷ xs) ys [] vs even same = absurd (omega (arith, even))
texts_one (x ∷ xs) ys (u ∷ us) vs even same =
    let rest = texts_one xs ys us vs (omega (arith, even)) (cc) in
    let first : x ≡ u = cc in
    (ap₂ (λ (z : ℕ). λ (zs : List ℕ). z ∷ zs) first rest.0, rest.1)
