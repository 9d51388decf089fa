-- Bytes, and numbers of two bytes.
use Rattle.std.proofs.Common.{◌≡◌, ℕ, zero, suc, ◌+◌, ◌*◌, ◌/◌, ◌%◌, ◌<◌, true, List, [], ◌∷◌, ◌++◌, get_or, take, drop, refl, ap₂, arith, ltb-true, lt-ltb}
use Rattle.chart.specs.Fields.{word}
use Rattle.chart.specs.WellFormed.{every, is_byte, is_word}
use Rattle.chart.proofs.Bools.{both, join}

pub byte_first : (b : ℕ) (c : List ℕ) → every is_byte (b ∷ c) ≡ true → b < 256
byte_first b c h = ltb-true b 256 (both (is_byte b) (every is_byte c) h).0

pub byte_rest : (b : ℕ) (c : List ℕ) → every is_byte (b ∷ c) ≡ true → every is_byte c ≡ true
byte_rest b c h = (both (is_byte b) (every is_byte c) h).1

pub byte_at : (c : List ℕ) (i : ℕ) → every is_byte c ≡ true → get_or c i 0 < 256
byte_at [] zero h = omega arith
byte_at [] (suc i) h = omega arith
byte_at (b ∷ c) zero h = byte_first b c h
byte_at (b ∷ c) (suc i) h = byte_at c i (byte_rest b c h)

pub bytes_from : (c : List ℕ) → ((i : ℕ) → get_or c i 0 < 256) → every is_byte c ≡ true
bytes_from [] h = refl
bytes_from (b ∷ c) h = join (is_byte b) (every is_byte c) (lt-ltb b 256 (h 0)) (bytes_from c (λ i. h (suc i)))

pub take_bytes : (n : ℕ) (c : List ℕ) → every is_byte c ≡ true → every is_byte (take n c) ≡ true
take_bytes zero c h = refl
take_bytes (suc n) [] h = refl
take_bytes (suc n) (b ∷ c) h = let r = both (is_byte b) (every is_byte c) h in join (is_byte b) (every is_byte (take n c)) r.0 (take_bytes n c r.1)

pub drop_bytes : (n : ℕ) (c : List ℕ) → every is_byte c ≡ true → every is_byte (drop n c) ≡ true
drop_bytes zero c h = h
drop_bytes (suc n) [] h = refl
drop_bytes (suc n) (b ∷ c) h = drop_bytes n c (byte_rest b c h)

pub halves : (n : ℕ) → n / 256 * 256 + n % 256 ≡ n
halves n = omega arith

-- two bytes make a number and are its bytes
pub word_back : (h l : ℕ) (rest : List ℕ) → h < 256 → l < 256 → word (h * 256 + l) rest ≡ h ∷ (l ∷ rest)
word_back h l rest p q = ap₂ (λ a b. a ∷ (b ∷ rest)) (omega arith) (omega arith)

pub word_short : (h l : ℕ) → h < 256 → l < 256 → is_word (h * 256 + l) ≡ true
word_short h l p q = lt-ltb (h * 256 + l) 65536 (omega arith)

pub bytes_front : (xs ys : List ℕ) → every is_byte (xs ++ ys) ≡ true → every is_byte xs ≡ true
bytes_front [] ys h = refl
bytes_front (x ∷ xs) ys h = let r = both (is_byte x) (every is_byte (xs ++ ys)) h in join (is_byte x) (every is_byte xs) r.0 (bytes_front xs ys r.1)
