-- The words of some bytes one by one, and a room that is filled with them word by word. Assumes nothing.
use mathlib.Core.Path.{◌≡◌, refl, ap, ap₂, sym, ◌∙◌}
use mathlib.Core.List.{List, [], ◌∷◌, ◌++◌, append_assoc}
use mathlib.Core.Bool.{true, false}
use Prim.Native.Nat.{ℕ, zero, suc, ◌+◌, ◌*◌, ◌/◌, ◌%◌, ◌^◌, ◌≤◌, ◌<◌, min}
use native.Mathlib.Nat.{zero-add, min-eq_left, mod-eq_of_lt, div-eq_of_lt, div-add-mod', add-mul-mod_self_right, add-mul-div_right}
use native.Mathlib.Numerals.{add-one}
use native.Mathlib.Omega.{arith}
use lib.Dec.{ltb}
use lib.ListN.{length, get_or, take, drop, set, drop_of_length-le, take-append-drop, get_or-eq_default}
use borrow.Author.Tests.{ltb-true, ltb-false}
use lib.Seq.{drop-cons, drop-drop, drop_at, take-suc, take_all, take_at, take-append_seam, length-take-le, set_at}
use Rattle.std.specs.Int.{to_le_bytes, w32}
use Rattle.std.proofs.lemmas.Slice.{take-put_mid, drop-put_mid}
use borrow.Rule.Slice.PartMut.{put_mid}
use Rattle.laws.proofs.OfTests.{by_test_lem}
use Rattle.units.specs.Code.{capped}
use Rattle.input.specs.Words.{little_endian, words_in, word_at, word_bytes, bytes_of}

-- ---- one word

pub words_length : (s : List ℕ) → length (words_in s) ≡ length s / 4
unfolding words_in
words_length [] = refl
words_length (a ∷ []) = refl
words_length (a ∷ b ∷ []) = refl
words_length (a ∷ b ∷ c ∷ []) = refl
words_length (a ∷ b ∷ c ∷ d ∷ s) = omega (arith, words_length s)

-- four bytes further on
on : (a b c d : ℕ) (s : List ℕ) (k j : ℕ) → k ≡ suc (suc (suc (suc j))) → get_or (a ∷ b ∷ c ∷ d ∷ s) k 0 ≡ get_or s j 0
on a b c d s k j e = ap (λ n. get_or (a ∷ b ∷ c ∷ d ∷ s) n 0) e

word_on : (a b c d : ℕ) (s : List ℕ) (i : ℕ) → word_at (a ∷ b ∷ c ∷ d ∷ s) (suc i * 4) ≡ word_at s (i * 4)
unfolding word_at
word_on a b c d s i =
    let e0 = on a b c d s (suc i * 4) (i * 4) (omega arith) in
    let e1 = on a b c d s (suc i * 4 + 1) (i * 4 + 1) (omega arith) in
    let e2 = on a b c d s (suc i * 4 + 2) (i * 4 + 2) (omega arith) in
    let e3 = on a b c d s (suc i * 4 + 3) (i * 4 + 3) (omega arith) in
    omega arith

first : (a b c d : ℕ) (s : List ℕ) → little_endian a b c d ≡ word_at (a ∷ b ∷ c ∷ d ∷ s) 0
unfolding word_at
first a b c d s = refl

-- word i starts at byte 4i
pub word_is : (s : List ℕ) (i : ℕ) → i < length s / 4 → get_or (words_in s) i 0 ≡ word_at s (i * 4)
unfolding words_in
word_is [] i h = absurd (omega arith)
word_is (a ∷ []) i h = absurd (omega arith)
word_is (a ∷ b ∷ []) i h = absurd (omega arith)
word_is (a ∷ b ∷ c ∷ []) i h = absurd (omega arith)
word_is (a ∷ b ∷ c ∷ d ∷ s) zero h = first a b c d s
word_is (a ∷ b ∷ c ∷ d ∷ s) (suc i) h = word_is s i (omega arith) ∙ sym (word_on a b c d s i)

-- a number that was cut to 64 bits lies behind every list that 64 bits count, as it did before
pub cut_word : (w : List ℕ) (n : ℕ) {i : ℕ} → length w < 2 ^ 64 → i ≡ capped n → get_or w i 0 ≡ get_or w n 0
cut_word w n {i} few e = by_test_lem (ltb n (length w)) inside behind
  where
    inside : ltb n (length w) ≡ true → get_or w i 0 ≡ get_or w n 0
    inside t =
        let k : i ≡ n = omega (arith, e, few, ltb-true n (length w) t) in
        ap (λ (j : ℕ). get_or w j 0) k

    behind : ltb n (length w) ≡ false → get_or w i 0 ≡ get_or w n 0
    behind t =
        let h = ltb-false n (length w) t in
        get_or-eq_default w 0 (omega (arith, e, few, h)) ∙ sym (get_or-eq_default w 0 h)

-- ---- word by word, as the loop puts them

-- the first i words are loaded, and now one more
pub one_more_loaded :
    (bytes room later : List ℕ) (i : ℕ) {w : ℕ} → later ≡ take i (words_in bytes) ++ drop i room → i < length bytes / 4 → i < length room
    → w ≡ word_at bytes (i * 4) → set later i w ≡ take (i + 1) (words_in bytes) ++ drop (i + 1) room
one_more_loaded bytes room later i {w} so_far there place e =
    let ws = words_in bytes in
    let inside : i < length ws = omega (arith, words_length bytes) in
    let first_part : length (take i ws) ≡ i = length-take-le i ws (omega arith) in
    let next : drop i room ≡ get_or room i 0 ∷ drop (suc i) room = drop-cons room i 0 place in
    ap (λ (r : List ℕ). set r i w) (so_far ∙ ap (λ (r : List ℕ). take i ws ++ r) next)
    ∙ set_at (take i ws) (get_or room i 0) (drop (suc i) room) w i first_part
    ∙ ap (λ (x : ℕ). take i ws ++ (x ∷ drop (suc i) room)) (e ∙ sym (word_is bytes i there))
    ∙ sym (append_assoc (take i ws) (get_or ws i 0 ∷ []) (drop (suc i) room))
    ∙ ap (λ (r : List ℕ). r ++ drop (suc i) room) (sym (take-suc ws i 0 inside))
    ∙ ap (λ (k : ℕ). take k ws ++ drop k room) (sym (add-one i))

-- a room with a place for each word begins with them all
pub whole_loaded : (bytes room : List ℕ) {later : List ℕ} {n : ℕ} → length bytes / 4 ≤ length room → n ≡ min (length bytes / 4) (length room)
    → later ≡ take n (words_in bytes) ++ drop n room → take n later ≡ words_in bytes
whole_loaded bytes room {later} {n} h e f =
    let all : n ≡ length (words_in bytes) = e ∙ min-eq_left h ∙ sym (words_length bytes) in
    let whole : take n (words_in bytes) ≡ words_in bytes = take_all n (words_in bytes) (omega arith) in
    ap (take n) (f ∙ ap (λ (r : List ℕ). r ++ drop n room) whole)
    ∙ ap (λ (k : ℕ). take k (words_in bytes ++ drop n room)) all
    ∙ take-append_seam (words_in bytes) (drop n room)

-- ---- and back

bytes_length : (ws : List ℕ) → length (bytes_of ws) ≡ length ws * 4
unfolding bytes_of
bytes_length [] = refl
bytes_length (w ∷ ws) = omega (arith, bytes_length ws)

-- one word more at the end
bytes_snoc : (ws : List ℕ) (w : ℕ) → bytes_of (ws ++ (w ∷ [])) ≡ bytes_of ws ++ word_bytes w
unfolding bytes_of
bytes_snoc [] w = refl
bytes_snoc (v ∷ ws) w = ap (λ (r : List ℕ). word_bytes v ++ r) (bytes_snoc ws w)

-- the bytes of the first n words, and of those behind them
pub bytes_take : (n : ℕ) (ws : List ℕ) → take (n * 4) (bytes_of ws) ≡ bytes_of (take n ws)
unfolding bytes_of
bytes_take zero ws = refl
bytes_take (suc n) [] = take_all (suc n * 4) [] (omega arith)
bytes_take (suc n) (w ∷ ws) =
    let four-more : suc n * 4 ≡ suc (suc (suc (suc (n * 4)))) = omega arith in
    ap (λ (k : ℕ). take k (bytes_of (w ∷ ws))) four-more ∙ ap (λ (r : List ℕ). word_bytes w ++ r) (bytes_take n ws)

pub bytes_drop : (n : ℕ) (ws : List ℕ) → drop (n * 4) (bytes_of ws) ≡ bytes_of (drop n ws)
unfolding bytes_of
bytes_drop zero ws = refl
bytes_drop (suc n) [] = drop_of_length-le [] {i = suc n * 4} (omega arith)
bytes_drop (suc n) (w ∷ ws) =
    let four-more : suc n * 4 ≡ suc (suc (suc (suc (n * 4)))) = omega arith in
    ap (λ (k : ℕ). drop k (bytes_of (w ∷ ws))) four-more ∙ bytes_drop n ws

-- the library's bytes of a word
pub word_bytes_are : (w : ℕ) → to_le_bytes w32 w ≡ word_bytes w
word_bytes_are w =
    let third : w / 65536 % 256 ≡ w / 256 / 256 % 256 = omega arith in
    let fourth : w / 16777216 % 256 ≡ w / 256 / 256 / 256 % 256 = omega arith in
    (λ i. w % 256 ∷ w / 256 % 256 ∷ third i ∷ fourth i ∷ [])

-- the bytes of the first i words are stored, and now those of one more
pub one_more_stored :
    (words bytes later : List ℕ) (i : ℕ) {k : ℕ} {put : List ℕ} → later ≡ bytes_of (take i words) ++ drop (i * 4) bytes → i < length words
    → i * 4 + 4 ≤ length bytes → length later ≡ length bytes → k ≡ 4 → put ≡ to_le_bytes w32 (get_or words i 0)
    → put_mid (i * 4) k later put ≡ bytes_of (take (i + 1) words) ++ drop ((i + 1) * 4) bytes
one_more_stored words bytes later i {k} {put} so_far read place same_length four e =
    let w = get_or words i 0 in
    let bytes-put : put ≡ word_bytes w = e ∙ word_bytes_are w in
    let before = bytes_of (take i words) in
    let size : length before ≡ i * 4 = bytes_length (take i words) ∙ ap (λ (k : ℕ). k * 4) (length-take-le i words (omega arith)) in
    let first_part : take (i * 4) later ≡ before = ap (take (i * 4)) so_far ∙ take_at before (drop (i * 4) bytes) (i * 4) size in
    let next : (i + 1) * 4 ≡ i * 4 + 4 = omega arith in
    let last-part : drop ((i + 1) * 4) later ≡ drop ((i + 1) * 4) bytes =
    ap (λ (k : ℕ). drop k later) next
    ∙ sym (drop-drop 4 (i * 4) later)
    ∙ ap (drop 4) (ap (drop (i * 4)) so_far ∙ drop_at before (drop (i * 4) bytes) (i * 4) size)
    ∙ drop-drop 4 (i * 4) bytes
    ∙ ap (λ (k : ℕ). drop k bytes) (sym next) in
    let length-put : length put ≡ 4 = ap length bytes-put in
    sym (take-append-drop ((i + 1) * 4) (put_mid (i * 4) k later put))
    ∙ ap₂ (λ (a b : List ℕ). a ++ b)
    (take-put_mid (i * 4) k later put ((i + 1) * 4) (omega arith) (omega arith)
    ∙ ap₂ (λ (a b : List ℕ). a ++ b) first_part bytes-put
    ∙ sym (bytes_snoc (take i words) w)
    ∙ ap bytes_of (sym (take-suc words i 0 read) ∙ ap (λ (k : ℕ). take k words) (sym (add-one i))))
    (drop-put_mid (i * 4) k later put ((i + 1) * 4) (omega arith) (omega arith) (omega arith) ∙ last-part)

-- a byte below the others
low_byte : (a k : ℕ) → a < 256 → (a + k * 256) % 256 ≡ a
low_byte a k h = add-mul-mod_self_right a k 256 ∙ mod-eq_of_lt h

others : (a k : ℕ) → a < 256 → (a + k * 256) / 256 ≡ k
others a k h = add-mul-div_right a k (omega arith) ∙ ap (λ (n : ℕ). n + k) (div-eq_of_lt h) ∙ zero-add k

-- a word is its four bytes, where it has 32 bits
word_back : (w : ℕ) → w < 2 ^ 32 → little_endian (w % 256) (w / 256 % 256) (w / 256 / 256 % 256) (w / 256 / 256 / 256 % 256) ≡ w
word_back w h =
    let first-split = div-add-mod' w 256 in
    let second-split = div-add-mod' (w / 256) 256 in
    let third-split = div-add-mod' (w / 256 / 256) 256 in
    let top : w / 256 / 256 / 256 % 256 ≡ w / 256 / 256 / 256 = mod-eq_of_lt (omega arith) in
    omega arith

-- and four bytes are their word's
bytes_are : (a b c d : ℕ) → a < 256 → b < 256 → c < 256 → d < 256 → word_bytes (little_endian a b c d) ≡ a ∷ b ∷ c ∷ d ∷ []
bytes_are a b c d ha hb hc hd =
    let w = little_endian a b c d in
    let as-sum : w ≡ a + (b + (c + d * 256) * 256) * 256 = omega arith in
    let first_rest : w / 256 ≡ b + (c + d * 256) * 256 = ap (λ (n : ℕ). n / 256) as-sum ∙ others a (b + (c + d * 256) * 256) ha in
    let second-rest : w / 256 / 256 ≡ c + d * 256 = ap (λ (n : ℕ). n / 256) first_rest ∙ others b (c + d * 256) hb in
    let third-rest : w / 256 / 256 / 256 ≡ d = ap (λ (n : ℕ). n / 256) second-rest ∙ others c d hc in
    let first_byte = ap (λ (n : ℕ). n % 256) as-sum ∙ low_byte a (b + (c + d * 256) * 256) ha in
    let second-byte = ap (λ (n : ℕ). n % 256) first_rest ∙ low_byte b (c + d * 256) hb in
    let third-byte = ap (λ (n : ℕ). n % 256) second-rest ∙ low_byte c d hc in
    let fourth-byte = ap (λ (n : ℕ). n % 256) third-rest ∙ mod-eq_of_lt hd in
    (λ i. first_byte i ∷ second-byte i ∷ third-byte i ∷ fourth-byte i ∷ [])

-- words stored as bytes are read again
pub words_back : (ws : List ℕ) → ((k : ℕ) → get_or ws k 0 < 2 ^ 32) → words_in (bytes_of ws) ≡ ws
unfolding words_in bytes_of
words_back [] h = refl
words_back (w ∷ ws) h = (λ i. word_back w (h 0) i ∷ words_back ws (λ k. h (suc k)) i)

-- and the bytes of whole words that were loaded are those
pub bytes_back : (bs : List ℕ) → ((k : ℕ) → get_or bs k 0 < 256) → length bs % 4 ≡ 0 → bytes_of (words_in bs) ≡ bs
unfolding words_in bytes_of
bytes_back [] h e = refl
bytes_back (a ∷ []) h e = absurd (omega arith)
bytes_back (a ∷ b ∷ []) h e = absurd (omega arith)
bytes_back (a ∷ b ∷ c ∷ []) h e = absurd (omega arith)
bytes_back (a ∷ b ∷ c ∷ d ∷ s) h e =
    let rest = bytes_back s (λ k. h (suc (suc (suc (suc k))))) (omega arith) in
    (λ i. bytes_are a b c d (h 0) (h 1) (h 2) (h 3) i ++ rest i)
