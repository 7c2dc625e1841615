-- Text that is made digit by digit, word by word and line by line.
use Rattle.std.proofs.Common.{◌≡◌, ◌∙◌, ℕ, List, [], ◌∷◌, ◌++◌, Result, Ok, Err, OnOk, codes, ap, refl, sym, append_assoc, ◌+◌, ◌-◌, ◌≤◌}
use Rattle.std.proofs.Common.{Option, take, drop, subst, arith, zero, suc, ◌*◌, ◌/◌, ◌%◌, ◌^◌, ◌<◌, Bool, true, false, length, set, get_or}
use Rattle.std.proofs.Common.{take_all, length-append}
use Rattle.std.specs.List.{flat_map, range_with_len}
use Rattle.std.proofs.lemmas.List.{append-nil, take-append-drop, drop-set, length-append, length-drop, take_more, take-append-le}
use Rattle.std.proofs.lemmas.List.Concat.{flat_map-append}
use Rattle.std.proofs.Math.Seq.{take-append-add}
use Rattle.std.proofs.Math.Bool.{cond}
use Rattle.std.proofs.Math.Dec.{eqb}
use Rattle.std.proofs.lemmas.Bool.{eq-eqb, eqb-false, ne_eqb}
use Rattle.std.proofs.Math.Nat.{div-lt_iff_lt-mul, mul-le-mul_left, pow-suc, pow-zero}
use Rattle.std.specs.Fmt.{digit_glyph, digits, digits_onto}
use Rattle.elf_image_stream.proofs.Public.{is_index, line_at, no_index}
use Rattle.elf_tool_check.proofs.LineInARow.{joined_words, line_in_a_row, to_the_end}
use Rattle.elf_tool_check.specs.FileLines.{blank, line, further_words}
use Rattle.std.specs.Io.KnownBytes.{Appends}
use Rattle.std.proofs.KnownBytes.{Appends-nil, Appends-trans}
use Rattle.std.specs.Io.Iter.{u64_saturate}
use Rattle.elf_tool_text.specs.Buffered.{Buffers, IsBeginning, IsCounted, IsCutShort}
use Rattle.elf_tool_text.specs.declared.output.Output.{Output}
use Rattle.elf_tool_check.specs.declared.calls.ToolFault.TheVariants.{Read, Write, OutOfMemory}
use Rattle.elf_tool_check.specs.declared.calls.ToolFault.{ToolFault}

-- Lines that are made word by word. Appending a blank and a word for each further word, and then the line feed, gives the text with the
-- line of these words after it, in whichever pieces it is appended.

-- a text with more words after it, one call after the other
abbrev pub words_on : List ℕ → List (List ℕ) → List ℕ
words_on text [] = text
words_on text (w ∷ ws) = words_on (text ++ blank ∷ w) ws

-- words that come one after the other are after the text
words_append : (text : List ℕ) (ws : List (List ℕ)) → words_on text ws ≡ text ++ further_words ws
words_append text [] = sym (append-nil text)
words_append text (w ∷ ws) = words_append (text ++ blank ∷ w) ws ∙ append_assoc text (blank ∷ w) (further_words ws)

-- a line that is begun, given its words, and ended
pub whole_line : (text w : List ℕ) (ws : List (List ℕ)) → words_on (text ++ w) ws ++ codes "\n" ≡ text ++ line (w ∷ ws)
unfolding line
whole_line text w ws =
    ap (λ (s : List ℕ). s ++ codes "\n") (words_append (text ++ w) ws ∙ append_assoc text w (further_words ws))
    ∙ append_assoc text (w ++ further_words ws) (codes "\n")
    ∙ ap (λ (s : List ℕ). text ++ (s ++ codes "\n")) (sym (joined_words w ws))

-- the same of the answer of its last call
pub line_ended : {T E : Type 0} (result : Result T E) (text last new w : List ℕ) (ws : List (List ℕ)) →
    OnOk result (new ≡ last ++ codes "\n")
    → last ≡ words_on (text ++ w) ws → OnOk result (new ≡ text ++ line (w ∷ ws))
line_ended (Ok done) text last new w ws ended same = ended ∙ ap (λ (s : List ℕ). s ++ codes "\n") same ∙ whole_line text w ws
line_ended (Err fault) text last new w ws ended same = tt

-- words after others are after the text too
further_append : (text : List ℕ) (ws vs : List (List ℕ)) → words_on text ws ++ further_words vs ≡ words_on text (ws ++ vs)
further_append text ws vs =
    ap (λ (s : List ℕ). s ++ further_words vs) (words_append text ws)
    ∙ append_assoc text (further_words ws) (further_words vs)
    ∙ ap (λ (s : List ℕ). text ++ s) (sym (flat_map-append (λ (word : List ℕ). blank ∷ word) ws vs))
    ∙ sym (words_append text (ws ++ vs))

-- a line whose last words come as a list
pub line_ended_by : {T E : Type 0} (result : Result T E) (text last new w : List ℕ) (ws vs : List (List ℕ)) →
    OnOk result (new ≡ last ++ codes "\n")
    → last ≡ words_on (text ++ w) ws ++ further_words vs → OnOk result (new ≡ text ++ line (w ∷ (ws ++ vs)))
line_ended_by result text last new w ws vs ended same =
    line_ended result text last new w (ws ++ vs) ended (same ∙ further_append (text ++ w) ws vs)

-- ---- a line as one text

-- a line that is put together in one piece
pub line_appended : {T E : Type 0} (result : Result T E) (text put new w : List ℕ) (ws : List (List ℕ)) → OnOk result (new ≡ text ++ put)
    → put ≡ w ++ to_the_end ws → OnOk result (new ≡ text ++ line (w ∷ ws))
line_appended (Ok done) text put new w ws appended same = appended ∙ ap (λ (s : List ℕ). text ++ s) (same ∙ line_in_a_row w ws)
line_appended (Err fault) text put new w ws appended same = tt

-- ---- a line whose first words come in one piece

word_more : (text : List ℕ) (ws : List (List ℕ)) (v : List ℕ) → words_on text (ws ++ v ∷ []) ≡ words_on text ws ++ blank ∷ v
word_more text [] v = refl
word_more text (w ∷ ws) v = word_more (text ++ blank ∷ w) ws v

-- the last word is after them
pub line_ended_after : {T E : Type 0} (result : Result T E) (text put last new w : List ℕ) (ws : List (List ℕ)) (v : List ℕ) →
    OnOk result (new ≡ last ++ codes "\n")
    → last ≡ (text ++ put) ++ blank ∷ v → put ≡ w ++ further_words ws → OnOk result (new ≡ text ++ line (w ∷ (ws ++ v ∷ [])))
line_ended_after result text put last new w ws v ended same is =
    line_ended result text last new w (ws ++ v ∷ []) ended (
    same
    ∙ ap (λ (s : List ℕ). s ++ blank ∷ v) (
    ap (λ (s : List ℕ). text ++ s) is ∙ sym (append_assoc text w (further_words ws)) ∙ sym (words_append (text ++ w) ws)
    )
    ∙ sym (word_more (text ++ w) ws v)
    )

-- The digits of a number, put from the last one to the first: each step puts the last digit in front and divides by the base. A number has
-- at least one digit, so a place is left for it. By induction, a number below the base to the power k has at most k digits.

-- the last digit, in front of what is put
abbrev with_last : ℕ → ℕ → List ℕ → List ℕ
with_last base n acc = digit_glyph false (n % base) ∷ acc

module _ (base n : ℕ) (acc : List ℕ) where
  one_digit : (k : ℕ) (none : Bool) → eqb (n / base) 0 ≡ none
      → digits_onto (suc k) base false n acc ≡ cond none (with_last base n acc) (digits_onto k base false (n / base) (with_last base n acc))
  one_digit k none is = ap (λ (b : Bool). cond b (with_last base n acc) (digits_onto k base false (n / base) (with_last base n acc))) is

  -- it is the first digit too
  pub last_digit : (k : ℕ) → 0 < k → n / base ≡ 0 → digits_onto k base false n acc ≡ with_last base n acc
  last_digit zero some none = absurd (omega arith)
  last_digit (suc k) some none = one_digit k true (eq-eqb (n / base) 0 none)

  -- others are before it
  pub more_digits : (k : ℕ) → 0 < k → (n / base ≡ 0 → ⊥) →
      digits_onto k base false n acc ≡ digits_onto (k - 1) base false (n / base) (with_last base n acc)
  more_digits zero some rest = absurd (omega arith)
  more_digits (suc k) some rest =
      one_digit k false (ne_eqb (n / base) 0 rest)
      ∙ ap (λ (j : ℕ). digits_onto j base false (n / base) (with_last base n acc)) {x = k} {y = suc k - 1} (omega arith)

-- what is put at a place is in front of what was after it
pub put_before : (out : List ℕ) (i x : ℕ) → 0 < i → i ≤ length out → drop (i - 1) (set out (i - 1) x) ≡ x ∷ drop i out
put_before out i x some within =
    drop-set out (i - 1) x (omega arith) ∙ ap (λ (j : ℕ). x ∷ drop j out) {x = i - 1 + 1} {y = i} (omega arith)

-- ---- after what is put is what was there

module _ (base : ℕ) where
  abbrev IsAppended : ℕ → ℕ → List ℕ → Type 0
  IsAppended k n acc = digits_onto k base false n acc ≡ digits_onto k base false n [] ++ acc

  next_appended : (k n : ℕ) (acc : List ℕ) → ((acc : List ℕ) → IsAppended k (n / base) acc) → (none : Bool) → eqb (n / base) 0 ≡ none →
      IsAppended (suc k) n acc
  next_appended k n acc before true is =
      one_digit base n acc k true is ∙ ap (λ (s : List ℕ). s ++ acc) (sym (one_digit base n [] k true is))
  next_appended k n acc before false is =
      let last : List ℕ = with_last base n [] in
      one_digit base n acc k false is ∙ before (with_last base n acc) ∙ sym (append_assoc (digits_onto k base false (n / base) []) last acc)
      ∙ ap (λ (s : List ℕ). s ++ acc) (sym (before last) ∙ sym (one_digit base n [] k false is))

  pub digits_append : (k n : ℕ) (acc : List ℕ) → IsAppended k n acc
  digits_append zero n acc = refl
  digits_append (suc k) n acc = next_appended k n acc (digits_append k (n / base)) (eqb (n / base) 0) refl

  pub digits_append_all : (n : ℕ) (acc : List ℕ) → digits_onto 64 base false n acc ≡ digits base false n ++ acc
  unfolding digits
  digits_append_all n acc = digits_append 64 n acc

  -- a number has a digit, so there is a place before those that are put
  some_digit : (k n : ℕ) (none : Bool) → eqb (n / base) 0 ≡ none → 0 < length (digits_onto (suc k) base false n [])
  some_digit k n true is = rw (one_digit base n [] k true is) (omega arith)
  some_digit k n false is =
      rw (
        one_digit base n [] k false is,
        digits_append k (n / base) (with_last base n []),
        length-append (digits_onto k base false (n / base) []) (with_last base n []),
      )
      (omega arith)

  pub place_before : (k n : ℕ) (put all tail : List ℕ) → 0 < k → digits_onto k base false n put ≡ all ++ tail →
      length put < length all + length tail
  place_before zero n put all tail some is = absurd (omega arith)
  place_before (suc k) n put all tail some is =
      let counts : length (digits_onto (suc k) base false n []) + length put ≡ length all + length tail =
      sym (length-append (digits_onto (suc k) base false n []) put) ∙ ap length (sym (digits_append (suc k) n put) ∙ is) ∙
      length-append all tail in
      omega (arith, counts, some_digit k n (eqb (n / base) 0) refl)

-- so there is one where all digits have room
pub place_left : (base k n start end : ℕ) (out old all : List ℕ) → 0 < k → digits_onto k base false n (drop start out) ≡ all ++ drop end old
    → length out ≡ length old → end ≤ length old → length all ≤ end → start ≤ end → 0 < start
place_left base k n start end out old all some is same inside room before =
    let less = place_before base k n (drop start out) all (drop end old) some is in
    omega (arith, less, same, inside, room, before, length-drop start out, length-drop end old)

ap-lt : {n m o : ℕ} → m ≡ o → n < m → n < o
ap-lt is less = omega (arith, is, less)

-- what is left of a number is some only where a place is left for it
pub places_left : (m k : ℕ) → (m ≡ 0 → ⊥) → m < 2 ^ k → 0 < k
places_left m zero some small = absurd (some (omega (arith, small)))
places_left m (suc k) some small = omega arith

-- what is left of a number fits a place less
pub fits_less : (base n k : ℕ) → 2 ≤ base → 0 < k → n < 2 ^ k → n / base < 2 ^ (k - 1)
fits_less base n zero least some small = absurd (omega arith)
fits_less base n (suc k) least some small =
    let twice : n < 2 ^ k * 2 = rw (← pow-suc 2 k) small in
    let much : 2 ^ k * 2 ≤ 2 ^ k * base = mul-le-mul_left (2 ^ k) least in
    ap-lt (ap (λ (j : ℕ). 2 ^ j) {x = k} {y = suc k - 1} (omega arith)) ((div-lt_iff_lt-mul (omega arith)).1 (omega (arith, twice, much)))

-- ---- a small number has few digits

rest_fits : (base n k : ℕ) → 0 < base → 0 < k → n < base ^ k → n / base < base ^ (k - 1)
rest_fits base n zero some least small = absurd (omega arith)
rest_fits base n (suc k) some least small =
    ap-lt (ap (λ (j : ℕ). base ^ j) {x = k} {y = suc k - 1} (omega arith)) ((div-lt_iff_lt-mul some).1 (rw (← pow-suc base k) small))

some_place : (base m k : ℕ) → (m ≡ 0 → ⊥) → m < base ^ k → 0 < k
some_place base m zero some small =
    let one : base ^ 0 ≡ 1 = pow-zero base in
    absurd (some (omega (arith, one, small)))
some_place base m (suc k) some small = omega arith

module _ (base : ℕ) (some : 0 < base) where
  abbrev HasFew : ℕ → ℕ → ℕ → Type 0
  HasFew k j n = length (digits_onto j base false n []) ≤ k

  few_by : (k j n : ℕ) → 0 < k → n < base ^ k → ((m : ℕ) → 0 < k - 1 → m < base ^ (k - 1) → HasFew (k - 1) j m) → (none : Bool) →
      eqb (n / base) 0 ≡ none → HasFew k (suc j) n
  few_by k j n least small fewer true is = rw (one_digit base n [] j true is) (omega arith)
  few_by k j n least small fewer false is =
      let fits = rest_fits base n k some least small in
      let left = some_place base (n / base) (k - 1) (eqb-false (n / base) 0 is) fits in
      rw (
        one_digit base n [] j false is,
        digits_append base j (n / base) (with_last base n []),
        length-append (digits_onto j base false (n / base) []) (with_last base n []),
      )
      (omega (arith, fewer (n / base) left fits))

  few_onto : (j k n : ℕ) → 0 < k → n < base ^ k → HasFew k j n
  few_onto zero k n least small = omega arith
  few_onto (suc j) k n least small = few_by k j n least small (λ m left fits. few_onto j (k - 1) m left fits) (eqb (n / base) 0) refl

  pub few_digits : (k n : ℕ) → 0 < k → n < base ^ k → length (digits base false n) ≤ k
  unfolding digits
  few_digits k n least small = few_onto 64 k n least small

-- Of lines that are made one after the other.

-- one more line
pub line_more : (f : ℕ → List ℕ) (text old new : List ℕ) (j end n : ℕ) → j < end → end ≡ n → new ≡ old ++ f j
    → old ≡ text ++ flat_map f (take j (range_with_len 0 n)) → new ≡ text ++ flat_map f (take (j + 1) (range_with_len 0 n))
line_more f text old new j end n below same pushed before =
    let within = is_index j end n below same in
    let xs = range_with_len 0 n in
    let is : f j ≡ f (get_or xs j 0) = line_at f j end n (f j) below same refl in
    let more : flat_map f (take (j + 1) xs) ≡ flat_map f (take j xs) ++ f j =
    ap (flat_map f) (take_more xs j 0 within) ∙ flat_map-append f (take j xs) (get_or xs j 0 ∷ [])
    ∙ ap (λ (s : List ℕ). flat_map f (take j xs) ++ s) (append-nil (f (get_or xs j 0)) ∙ sym is) in
    pushed ∙ ap (λ (s : List ℕ). s ++ f j) before ∙ append_assoc text (flat_map f (take j xs)) (f j) ∙
    ap (λ (s : List ℕ). text ++ s) (sym more)

-- all of them
pub all_lines : (f : ℕ → List ℕ) (text new : List ℕ) (j end n : ℕ) → end ≤ j → end ≡ n →
    new ≡ text ++ flat_map f (take j (range_with_len 0 n))
    → new ≡ text ++ flat_map f (range_with_len 0 n)
all_lines f text new j end n past same before =
    before ∙ ap (λ (xs : List ℕ). text ++ flat_map f xs) (take_all j (range_with_len 0 n) (no_index j end n past same))

-- A text that is written in pieces. What was written and what is pending are, joined, the text so far; a flush moves what is pending to
-- what is written, and a fault leaves a beginning of the text.

-- ---- one step after the other

pub buffers_none : (a : Option (List ℕ)) (o : Output) → Buffers a a o o []
buffers_none a o = record { out = []; went = Appends-nil a; rest = sym (append-nil o.pending.items); count = omega arith }

-- a line is pushed after what was sent
pub buffers_line : (a b : Option (List ℕ)) (o p q : Output) (text line : List ℕ) → Buffers a b o p text
    → q.pending.items ≡ p.pending.items ++ line → q.written ≡ p.written → Buffers a b o q (text ++ line)
buffers_line a b o p q text line sent pushed same = record {
  out = sent.out;
  went = sent.went;
  rest = ap (λ (s : List ℕ). sent.out ++ s) pushed ∙ sym (append_assoc sent.out p.pending.items line) ∙
      ap (λ (s : List ℕ). s ++ line) sent.rest
      ∙ append_assoc o.pending.items text line;
  count = ap u64_saturate same ∙ sent.count;
}

-- what was pending and what is sent later is after what was sent first
later_text : (a b : Option (List ℕ)) (o p : Output) (s t : List ℕ) (sent : Buffers a b o p s) →
    o.pending.items ++ (s ++ t) ≡ sent.out ++ (p.pending.items ++ t)
later_text a b o p s t sent =
    sym (append_assoc o.pending.items s t) ∙ ap (λ (r : List ℕ). r ++ t) (sym sent.rest) ∙ append_assoc sent.out p.pending.items t

pub buffers_both : (a b c : Option (List ℕ)) (o p q : Output) (s t : List ℕ) → Buffers a b o p s → Buffers b c p q t →
    Buffers a c o q (s ++ t)
buffers_both a b c o p q s t first second = record {
  out = first.out ++ second.out;
  went = Appends-trans a b c first.out second.out first.went second.went;
  rest = append_assoc first.out second.out q.pending.items ∙ ap (λ (r : List ℕ). first.out ++ r) second.rest ∙
      sym (later_text a b o p s t first);
  count =
      let whole = length-append first.out second.out in
      let before = first.count in
      let after = second.count in
      omega arith;
}

pub buffers_flushed : (a b c : Option (List ℕ)) (o p q : Output) (s : List ℕ) → Buffers a b o p s → Buffers b c p q [] → Buffers a c o q s
buffers_flushed a b c o p q s first second = subst (Buffers a c o q) (append-nil s) (buffers_both a b c o p q s [] first second)

-- the first bytes of what is after are the first bytes of all
pub more_out : (a b c : Option (List ℕ)) (out rest all : List ℕ) (n : ℕ) → all ≡ out ++ rest → n ≤ length rest → Appends a b out →
    Appends b c (take n rest)
    → (length out + n ≤ length all) × Appends a c (take (length out + n) all)
more_out a b c out rest all n split within first second =
    let long = length-append out rest in (
      rw split (omega arith),
      subst (Appends a c) (sym (ap (take (length out + n)) split ∙ take-append-add out rest n))
          (Appends-trans a b c out (take n rest) first second),
    )

-- what stops after some was sent, in both
pub cut_later : (a b c : Option (List ℕ)) (o p : Output) (s t : List ℕ) (fault : ToolFault) → Buffers a b o p s → IsCutShort b c p t fault →
    IsCutShort a c o (s ++ t) fault
cut_later a b c o p s t (Write written) sent (n, count, below, went) =
    let split = later_text a b o p s t sent in
    let more = more_out a b c sent.out (p.pending.items ++ t) (o.pending.items ++ (s ++ t)) n split (omega arith) sent.went went in
    let long = ap length split in
    let parts = length-append sent.out (p.pending.items ++ t) in
    let before = sent.count in
    (length sent.out + n, omega arith, omega arith, more.1)
cut_later a b c o p s t OutOfMemory sent (n, within, went) =
    let more = more_out a b c sent.out (p.pending.items ++ t) (o.pending.items ++ (s ++ t)) n
    (later_text a b o p s t sent) within sent.went went in
    (length sent.out + n, more.0, more.1)
cut_later a b c o p s t (Read at) sent stop = absurd stop

-- what stops in a text stops in a longer one
pub cut_longer : (a c : Option (List ℕ)) (o : Output) (s t : List ℕ) (fault : ToolFault) → IsCutShort a c o s fault →
    IsCutShort a c o (s ++ t) fault
cut_longer a c o s t (Write written) (n, count, below, went) =
    let split = sym (append_assoc o.pending.items s t) in
    let first = ap (take n) split ∙ take-append-le n (o.pending.items ++ s) t (omega arith) in
    let long = ap length split in
    let parts = length-append (o.pending.items ++ s) t in
    (n, count, omega arith, subst (Appends a c) (sym first) went)
cut_longer a c o s t OutOfMemory (n, within, went) =
    let split = sym (append_assoc o.pending.items s t) in
    let first = ap (take n) split ∙ take-append-le n (o.pending.items ++ s) t within in
    let long = ap length split in
    let parts = length-append (o.pending.items ++ s) t in
    (n, omega arith, subst (Appends a c) (sym first) went)
cut_longer a c o s t (Read at) stop = absurd stop

pub cut_flushed : (a b c : Option (List ℕ)) (o p : Output) (s : List ℕ) (fault : ToolFault) → Buffers a b o p s →
    IsCutShort b c p [] fault → IsCutShort a c o s fault
cut_flushed a b c o p s fault sent stop =
    subst (λ (r : List ℕ). IsCutShort a c o r fault) (append-nil s) (cut_later a b c o p s [] fault sent stop)

-- an allocation fails with nothing more out
pub cut_here : (a : Option (List ℕ)) (o : Output) (text : List ℕ) → IsCutShort a a o text OutOfMemory
cut_here a o text = (0, omega arith, Appends-nil a)

-- ---- a whole text

-- nothing was pending, and nothing is: what is out is the text
all_out : (a c : Option (List ℕ)) (o q : Output) (text : List ℕ) (sent : Buffers a c o q text) → o.pending.items ≡ [] →
    q.pending.items ≡ [] → sent.out ≡ text
all_out a c o q text sent empty gone =
    sym (append-nil sent.out) ∙ ap (λ (s : List ℕ). sent.out ++ s) (sym gone) ∙ sent.rest ∙ ap (λ (s : List ℕ). s ++ text) empty

-- a last flush lets all of it out, and the count is its length
pub all_counted : (a b c : Option (List ℕ)) (o p q : Output) (text : List ℕ) (count : ℕ) → o.pending.items ≡ [] → o.written ≡ 0 →
    Buffers a b o p text
    → Buffers b c p q [] → q.pending.items ≡ [] → count ≡ q.written → count < 2 ^ 64 → IsCounted text a c count
all_counted a b c o p q text count empty none sent flushed gone is fits =
    let whole = buffers_flushed a b c o p q text sent flushed in
    let out = all_out a c o q text whole empty gone in
    let long = ap length out in
    let of_all = whole.count in
    (omega arith, subst (Appends a c) out whole.went)

pub all_cut : (a c : Option (List ℕ)) (o : Output) (text : List ℕ) (fault : ToolFault) → o.pending.items ≡ [] → o.written ≡ 0 →
    IsCutShort a c o text fault
    → IsBeginning text a c fault
all_cut a c o text (Write written) empty none (n, count, below, went) =
    let whole : o.pending.items ++ text ≡ text = ap (λ (s : List ℕ). s ++ text) empty in
    (n, rw whole at below, rw whole at went, λ short. (let within = rw whole at below in omega arith))
all_cut a c o text OutOfMemory empty none (n, within, went) =
    let whole : o.pending.items ++ text ≡ text = ap (λ (s : List ℕ). s ++ text) empty in
    (n, rw whole at within, rw whole at went)
all_cut a c o text (Read at) empty none stop = absurd stop

-- ---- a line for each element of a list

module _ {X : Type 0} (f : X → List ℕ) (xs : List X) (i : ℕ) (d : X) (within : i < length xs) where
  one_more_piece : flat_map f (take (i + 1) xs) ≡ flat_map f (take i xs) ++ f (get_or xs i d)
  one_more_piece =
      ap (flat_map f) (take_more xs i d within) ∙ flat_map-append f (take i xs) (get_or xs i d ∷ []) ∙
      ap (λ (s : List ℕ). flat_map f (take i xs) ++ s) (append-nil (f (get_or xs i d)))

  all_in_two : flat_map f xs ≡ flat_map f (take (i + 1) xs) ++ flat_map f (drop (i + 1) xs)
  all_in_two = ap (flat_map f) (sym (take-append-drop (i + 1) xs)) ∙ flat_map-append f (take (i + 1) xs) (drop (i + 1) xs)

  module _ (a b : Option (List ℕ)) (o p : Output) (line : List ℕ) (sent : Buffers a b o p (flat_map f (take i xs)))
      (is : line ≡ f (get_or xs i d)) where
    pushed_line : (q : Output) → q.pending.items ≡ p.pending.items ++ line → q.written ≡ p.written →
        Buffers a b o q (flat_map f (take (i + 1) xs))
    pushed_line q pushed same =
        subst (Buffers a b o q) (ap (λ (s : List ℕ). flat_map f (take i xs) ++ s) is ∙ sym one_more_piece)
        (buffers_line a b o p q (flat_map f (take i xs)) line sent pushed same)

    -- the line of one more element is pushed, and a piece goes out where it is large
    pub line_buffered : (c : Option (List ℕ)) (q r : Output) → q.pending.items ≡ p.pending.items ++ line → q.written ≡ p.written →
        Buffers b c q r []
        → Buffers a c o r (flat_map f (take (i + 1) xs))
    line_buffered c q r pushed same flushed = buffers_flushed a b c o q r (flat_map f (take (i + 1) xs)) (pushed_line q pushed same) flushed

    -- or no more of it goes out than of all lines
    pub line_cut : (c : Option (List ℕ)) (q : Output) (fault : ToolFault) → q.pending.items ≡ p.pending.items ++ line →
        q.written ≡ p.written → IsCutShort b c q [] fault
        → IsCutShort a c o (flat_map f xs) fault
    line_cut c q fault pushed same stop =
        subst (λ (s : List ℕ). IsCutShort a c o s fault) (sym all_in_two)
        (cut_longer a c o (flat_map f (take (i + 1) xs)) (flat_map f (drop (i + 1) xs)) fault
        (cut_flushed a b c o q (flat_map f (take (i + 1) xs)) fault (pushed_line q pushed same) stop))

  -- the lines of one more element are sent by themselves
  pub lines_buffered : (a b c : Option (List ℕ)) (o p r : Output) → Buffers a b o p (flat_map f (take i xs)) →
      Buffers b c p r (f (get_or xs i d))
      → Buffers a c o r (flat_map f (take (i + 1) xs))
  lines_buffered a b c o p r sent next =
      subst (Buffers a c o r) (sym one_more_piece) (buffers_both a b c o p r (flat_map f (take i xs)) (f (get_or xs i d)) sent next)

  -- or no more of them goes out than of all lines
  pub lines_cut : (a b c : Option (List ℕ)) (o p : Output) (fault : ToolFault) → Buffers a b o p (flat_map f (take i xs)) →
      IsCutShort b c p (f (get_or xs i d)) fault
      → IsCutShort a c o (flat_map f xs) fault
  lines_cut a b c o p fault sent stop =
      subst (λ (s : List ℕ). IsCutShort a c o s fault) (sym all_in_two)
      (cut_longer a c o (flat_map f (take (i + 1) xs)) (flat_map f (drop (i + 1) xs)) fault
      (subst (λ (s : List ℕ). IsCutShort a c o s fault) (sym one_more_piece)
      (cut_later a b c o p (flat_map f (take i xs)) (f (get_or xs i d)) fault sent stop)))

  -- the line of one more element is not allocated
  pub line_refused : (a b : Option (List ℕ)) (o p : Output) → Buffers a b o p (flat_map f (take i xs)) →
      IsCutShort a b o (flat_map f xs) OutOfMemory
  line_refused a b o p sent =
      let all : flat_map f xs ≡ flat_map f (take i xs) ++ flat_map f (drop i xs) =
      ap (flat_map f) (sym (take-append-drop i xs)) ∙ flat_map-append f (take i xs) (drop i xs) in
      subst (λ (s : List ℕ). IsCutShort a b o s OutOfMemory) (sym all)
      (cut_later a b b o p (flat_map f (take i xs)) (flat_map f (drop i xs)) OutOfMemory sent (cut_here b p (flat_map f (drop i xs))))

-- the lines of all elements
pub all_lines_buffered : {X : Type 0} (f : X → List ℕ) (xs : List X) (i : ℕ) (a b : Option (List ℕ)) (o p : Output) → length xs ≤ i
    → Buffers a b o p (flat_map f (take i xs)) → Buffers a b o p (flat_map f xs)
all_lines_buffered f xs i a b o p past sent = subst (Buffers a b o p) (ap (flat_map f) (take_all i xs past)) sent
