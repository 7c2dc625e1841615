-- A text that is passed on piece by piece, without memory. Bytes that have no room are written after all that was pending, so what is
-- written is a beginning of both. Pieces one after the other are their joined text, and if one of them stops, a beginning of it is written.
use Rattle.std.proofs.Common.{◌≡◌, ◌∙◌, ℕ, List, [], ◌∷◌, ◌++◌, Option, Result, Ok, Err, ap, append_assoc, arith, codes, drop, get_or}
use Rattle.std.proofs.Common.{length, length-append, refl, subst, sym, take, ◌+◌, ◌-◌, ◌≤◌, ◌<◌}
use Rattle.std.specs.List.{flat_map, range_with_len}
use Rattle.std.proofs.KnownBytes.{Appends-trans}
use Rattle.std.proofs.Math.Seq.{take-add}
use Rattle.std.proofs.lemmas.List.{append-nil, take-append-drop}
use Rattle.hex.specs.Hex.{encode_lower, encode_with, lower_digits}
use Rattle.elf_image_stream.proofs.Public.{is_index, line_at}
use Rattle.elf_image_stream.specs.Output.{StoppedIn, WentOut}
use Rattle.elf_image_stream.specs.declared.fault.WriteFault.{WriteFault}
use Rattle.elf_tool_check.specs.FileLines.{blank, further_words, line}
use Rattle.elf_tool_check.proofs.LineInARow.{line_in_a_row, to_the_end}
use Rattle.elf_tool_check.specs.declared.calls.ToolFault.TheVariants.{Write}
use Rattle.elf_tool_text.specs.Buffered.{Buffers, IsCutShort, IsPassed}
use Rattle.elf_tool_text.specs.declared.output.Output.{Output}
use Rattle.elf_tool_text.proofs.TextLines.{buffers_both, cut_later, cut_longer, lines_buffered, lines_cut, more_out}

-- ---- bytes that have no room

module _ (a b c : Option (List ℕ)) (o p q r : Output) (bytes : List ℕ) (pending : p.pending.items ≡ o.pending.items)
    (written : p.written ≡ o.written)
    (flushed : Buffers a b p q []) (empty : q.pending.items ≡ []) (held : r.pending.items ≡ q.pending.items)
    (as_many : r.written ≡ q.written) where
  -- what was pending is written
  flushed_all : flushed.out ≡ o.pending.items
  flushed_all =
      sym (append-nil flushed.out) ∙ ap (λ (s : List ℕ). flushed.out ++ s) (sym empty) ∙ flushed.rest ∙ append-nil p.pending.items ∙ pending

  -- and the bytes after it
  pub long_passed : (all : ℕ) → WentOut b c r.written bytes all → Buffers a c o (record { pending = r.pending; written = all }) bytes
  long_passed all went = record {
    out = flushed.out ++ bytes;
    went = Appends-trans a b c flushed.out bytes flushed.went went.1;
    rest = ap (λ (s : List ℕ). (flushed.out ++ bytes) ++ s) (held ∙ empty) ∙ append-nil (flushed.out ++ bytes) ∙
        ap (λ (s : List ℕ). s ++ bytes) flushed_all;
    count =
        let whole = length-append flushed.out bytes in
        let before = flushed.count in
        let after = went.0 in
        omega arith;
  }

  -- or only the first of them
  pub long_cut : (stopped : ℕ) → StoppedIn b c r.written bytes stopped → IsCutShort a c o bytes (Write stopped)
  long_cut stopped (n, is, below, went) =
      let split : o.pending.items ++ bytes ≡ flushed.out ++ bytes = ap (λ (s : List ℕ). s ++ bytes) (sym flushed_all) in
      let more = more_out a b c flushed.out bytes (o.pending.items ++ bytes) n split (omega arith) flushed.went went in
      let long = ap length split in
      let parts = length-append flushed.out bytes in
      let before = flushed.count in
      (length flushed.out + n, omega arith, omega arith, more.1)

-- ---- one piece after the other

pub passed_after : {T : Type 0} (a b c : Option (List ℕ)) (o p q : Output) (s t : List ℕ) (result : Result T WriteFault) →
    Buffers a b o p s
    → IsPassed b c p q t result → IsPassed a c o q (s ++ t) result
passed_after a b c o p q s t (Ok done) first second = buffers_both a b c o p q s t first second
passed_after a b c o p q s t (Err fault) first second = cut_later a b c o p s t (Write fault.written) first second

-- what stops with others before it and after it
pub stopped_between : (a b c : Option (List ℕ)) (o p : Output) (s t u : List ℕ) (written : ℕ) → Buffers a b o p s
    → IsCutShort b c p t (Write written) → IsCutShort a c o (s ++ (t ++ u)) (Write written)
stopped_between a b c o p s t u written first stop =
    cut_later a b c o p s (t ++ u) (Write written) first (cut_longer b c p t u (Write written) stop)

-- ---- lines by their indexes

module _ (f : ℕ → List ℕ) (j end n : ℕ) (below : j < end) (count : end ≡ n) (a b c : Option (List ℕ)) (o p : Output)
    (before : Buffers a b o p (flat_map f (take j (range_with_len 0 n)))) where
  here : f j ≡ f (get_or (range_with_len 0 n) j 0)
  here = line_at f j end n (f j) below count refl

  pub line_passed : (q : Output) → Buffers b c p q (f j) → Buffers a c o q (flat_map f (take (j + 1) (range_with_len 0 n)))
  line_passed q passed =
      lines_buffered f (range_with_len 0 n) j 0 (is_index j end n below count) a b c o p q before (subst (Buffers b c p q) here passed)

  pub line_stopped : (written : ℕ) → IsCutShort b c p (f j) (Write written) →
      IsCutShort a c o (flat_map f (range_with_len 0 n)) (Write written)
  line_stopped written stop =
      lines_cut f (range_with_len 0 n) j 0 (is_index j end n below count) a b c o p (Write written) before
      (subst (λ (s : List ℕ). IsCutShort b c p s (Write written)) here stop)

-- ---- digits block by block

encode-append : (xs ys : List ℕ) → encode_lower (xs ++ ys) ≡ encode_lower xs ++ encode_lower ys
unfolding encode_with
encode-append [] ys = refl
encode-append (x ∷ xs) ys = ap (λ (s : List ℕ). encode_with lower_digits (x ∷ []) ++ s) (encode-append xs ys)

module _ (bytes : List ℕ) (next end : ℕ) (a b c : Option (List ℕ)) (o p : Output) (order : next ≤ end)
    (before : Buffers a b o p (encode_lower (take next bytes))) where
  block : List ℕ
  block = encode_lower (take (end - next) (drop next bytes))

  block_more : encode_lower (take end bytes) ≡ encode_lower (take next bytes) ++ block
  unfolding block
  block_more =
      let same : next + (end - next) ≡ end = omega arith in
      ap (λ (k : ℕ). encode_lower (take k bytes)) (sym same) ∙ ap (λ (s : List ℕ). encode_lower s) (take-add next (end - next) bytes)
      ∙ encode-append (take next bytes) (take (end - next) (drop next bytes))

  pub block_passed : (q : Output) → Buffers b c p q (encode_lower (take (end - next) (drop next bytes))) →
      Buffers a c o q (encode_lower (take end bytes))
  unfolding block
  block_passed q passed =
      subst (Buffers a c o q) (sym block_more) (buffers_both a b c o p q (encode_lower (take next bytes)) block before passed)

  pub block_cut : (written : ℕ) → IsCutShort b c p (encode_lower (take (end - next) (drop next bytes))) (Write written) →
      IsCutShort a c o (encode_lower bytes) (Write written)
  unfolding block
  block_cut written stop =
      let all : encode_lower bytes ≡ encode_lower (take end bytes) ++ encode_lower (drop end bytes) =
      ap (λ (s : List ℕ). encode_lower s) (sym (take-append-drop end bytes)) ∙ encode-append (take end bytes) (drop end bytes) in
      subst (λ (s : List ℕ). IsCutShort a c o s (Write written)) (sym all)
      (cut_longer a c o (encode_lower (take end bytes)) (encode_lower (drop end bytes)) (Write written)
      (subst (λ (s : List ℕ). IsCutShort a c o s (Write written)) (sym block_more)
      (cut_later a b c o p (encode_lower (take next bytes)) block (Write written) before stop)))

-- ---- a line with its last word by itself

last_word : (ws : List (List ℕ)) (v : List ℕ) → (further_words ws ++ blank ∷ []) ++ (v ++ codes "\n") ≡ to_the_end (ws ++ v ∷ [])
last_word [] v = refl
last_word (w ∷ ws) v =
    append_assoc (blank ∷ (w ++ further_words ws)) (blank ∷ []) (v ++ codes "\n")
    ∙ append_assoc (blank ∷ w) (further_words ws) (blank ∷ (v ++ codes "\n"))
    ∙ ap (λ (s : List ℕ). blank ∷ (w ++ s)) (sym (append_assoc (further_words ws) (blank ∷ []) (v ++ codes "\n")) ∙ last_word ws v)

-- its first words, which end with a blank, and its last one are the line
pub line_of_last : {T : Type 0} (a c : Option (List ℕ)) (o q : Output) (front w : List ℕ) (ws : List (List ℕ)) (v : List ℕ)
    (result : Result T WriteFault)
    → front ≡ w ++ (further_words ws ++ blank ∷ []) → IsPassed a c o q (front ++ (v ++ codes "\n")) result →
    IsPassed a c o q (line (w ∷ (ws ++ v ∷ []))) result
line_of_last a c o q front w ws v result is passed =
    subst (λ (s : List ℕ). IsPassed a c o q s result) (
    ap (λ (s : List ℕ). s ++ (v ++ codes "\n")) is ∙ append_assoc w (further_words ws ++ blank ∷ []) (v ++ codes "\n")
    ∙ ap (λ (s : List ℕ). w ++ s) (last_word ws v) ∙ line_in_a_row w (ws ++ v ∷ [])
    ) passed

-- a line that is passed on in one piece
pub line_at_once : {T : Type 0} (a c : Option (List ℕ)) (o q : Output) (put w : List ℕ) (ws : List (List ℕ)) (result : Result T WriteFault)
    → put ≡ w ++ to_the_end ws → IsPassed a c o q put result → IsPassed a c o q (line (w ∷ ws)) result
line_at_once a c o q put w ws result is passed = subst (λ (s : List ℕ). IsPassed a c o q s result) (is ∙ line_in_a_row w ws) passed
