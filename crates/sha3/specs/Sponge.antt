-- The sponge of SHA3-512, with a rate of 72 bytes, which are 9 lanes.
use Rattle.std.specs.Prelude.{ℕ, zero, suc, ◌+◌, ◌-◌, ◌*◌, ◌/◌, ◌%◌, ◌^◌, List, [], ◌∷◌, ◌++◌, length, take, drop, replicate, bit_xor, slice_index}
use Rattle.sha3.specs.Keccak.{lanes, permuted}

abbrev pub zeros : ℕ → List ℕ
zeros n = replicate n 0

-- the lane that bytes give, the low one first
unfoldable pub lane_of : List ℕ → ℕ
lane_of [] = 0
lane_of (b ∷ bs) = b + 256 * lane_of bs

-- the eight bytes of a lane
abbrev pub bytes_of : ℕ → List ℕ
bytes_of x = (x % 256) ∷ (x / 2 ^ 8 % 256) ∷ (x / 2 ^ 16 % 256) ∷ (x / 2 ^ 24 % 256) ∷ (x / 2 ^ 32 % 256) ∷ (x / 2 ^ 40 % 256) ∷ (x / 2 ^ 48 % 256) ∷ (x / 2 ^ 56 % 256) ∷ []

-- the bytes of a state, and the one at i
unfoldable pub all_bytes : List ℕ → List ℕ
all_bytes [] = []
all_bytes (x ∷ xs) = bytes_of x ++ all_bytes xs

abbrev pub byte_at : List ℕ → ℕ → ℕ
byte_at a i = slice_index (bytes_of (slice_index a (i / 8))) (i % 8)

-- a state with a block added to its first nine lanes
abbrev pub mixed_at : List ℕ → List ℕ → ℕ → ℕ
mixed_at a block i = bit_xor (slice_index a i) (lane_of (take 8 (drop (8 * i) block)))

unfoldable pub mixed : List ℕ → List ℕ → List ℕ
mixed a block = lanes (mixed_at a block)

-- a state that has absorbed the first k blocks of m
unfoldable pub absorbed : ℕ → List ℕ → List ℕ → List ℕ
absorbed zero a m = a
absorbed (suc k) a m = absorbed k (permuted (mixed a (take 72 m))) (drop 72 m)

-- the suffix 01 and then pad10*1 in k + 1 bytes: 06, zeros and 80, or 86 in one byte
unfoldable pub padding : ℕ → List ℕ
padding zero = 0x86 ∷ []
padding (suc k) = 0x06 ∷ zeros k ++ 0x80 ∷ []

-- a message filled up to whole blocks
unfoldable pub padded : List ℕ → List ℕ
padded m = m ++ padding (71 - length m % 72)

-- the 64 bytes squeezed from the state a on, with m still to absorb
unfoldable pub sponge : List ℕ → List ℕ → List ℕ
sponge a m = take 64 (all_bytes (absorbed (length m / 72 + 1) a (padded m)))

-- SHA3-512
abbrev pub sha3 : List ℕ → List ℕ
sha3 m = sponge (zeros 25) m

-- the rule of the hash: the first 32 bytes of SHA3-512
abbrev pub sha3_rule : List ℕ → List ℕ
sha3_rule m = take 32 (sha3 m)
