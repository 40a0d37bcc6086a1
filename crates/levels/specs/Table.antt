-- The table of the levels.
use Rattle.std.specs.Prelude.{◌≡◌, ℕ, ◌+◌, ◌-◌, ◌*◌, ◌/◌, ◌^◌, ◌<◌, ◌≤◌}
use Rattle.std.proofs.Common.{arith}
use Rattle.levels.specs.declared.Level.{Level}
use Rattle.levels.specs.declared.Level.TheVariants.{Sample, Level128, Level192, Level256}
use Rattle.levels.specs.declared.Sizes.{Sizes}

-- a row of the table
pub record Numbers : Type 0 where
  pub m : ℕ
  pub n : ℕ
  pub t : ℕ
  pub k : ℕ
  pub rows : ℕ
  pub vector : ℕ
  pub body : ℕ
  pub public_key : ℕ
  pub secret_key : ℕ
  pub ticket : ℕ
  pub capacity : ℕ
  pub work_bytes : ℕ
  pub work_places : ℕ

-- all numbers, level by level
abbrev pub numbers_of : Level → Numbers
numbers_of Sample =
    record { m = 6; n = 56; t = 4; k = 32; rows = 24; vector = 7; body = 3; public_key = 96; secret_key = 256; ticket = 35; capacity = 50; work_bytes = 4096; work_places = 512 }
numbers_of Level128 =
    record { m = 13; n = 3904; t = 64; k = 3072; rows = 832; vector = 488; body = 104; public_key = 319488; secret_key = 94528; ticket = 136; capacity = 632; work_bytes = 2097152; work_places = 16384 }
numbers_of Level192 =
    record { m = 13; n = 5568; t = 128; k = 3904; rows = 1664; vector = 696; body = 208; public_key = 812032; secret_key = 357568; ticket = 240; capacity = 944; work_bytes = 2097152; work_places = 16384 }
numbers_of Level256 =
    record { m = 13; n = 6592; t = 128; k = 4928; rows = 1664; vector = 824; body = 208; public_key = 1025024; secret_key = 359616; ticket = 240; capacity = 1072; work_bytes = 2097152; work_places = 16384 }

-- how the numbers of a row hang together
pub record Fits (s : Numbers) : Type 0 where
  pub rows : s.rows ≡ s.m * s.t
  pub columns : s.n ≡ s.rows + s.k
  pub vector : s.n ≡ 8 * s.vector
  pub body : s.rows ≡ 8 * s.body
  pub shorter : s.body ≤ s.vector
  pub code : s.n + s.t ≤ 2 ^ s.m
  pub weight : s.t ≤ s.n
  pub matrix : s.public_key ≡ s.rows * (s.vector - s.body)
  pub secret : s.secret_key ≡ 2 * s.n + 2 * s.t + s.rows * s.body + 64
  pub ticket : s.ticket ≡ 32 + s.body
  pub capacity : s.capacity ≡ 40 + s.vector + s.body
  pub places : s.n ≤ s.work_places
  pub bytes : 2 * s.vector + s.body ≤ s.work_bytes
  pub small : s.n < 2 ^ 16
  pub positive : 0 < s.m
  pub narrow : s.m ≤ 16
  pub corrects : 2 ≤ s.t
  pub front : 0 < s.body
  pub back : s.body < s.vector
  -- all elements, g and a column
  pub elements : 2 ^ s.m + (s.t + 1) + s.t ≤ s.work_places
  pub mixed : s.rows * s.vector ≤ s.work_bytes
  -- g, the support, a syndrome, a locator and its values or the steps to it
  pub values : s.t + 1 + s.n + (s.t + 2 * (s.t / 2 + 1)) + s.n ≤ s.work_places
  pub steps : s.t + 1 + s.n + (s.t + 2 * (s.t / 2 + 1)) + 17 * (s.t + 1) ≤ s.work_places
  -- g, a column, the support and the values there
  pub tests : (s.t + 1) + s.t + (s.n + s.n) ≤ s.work_places

abbrev fits : (l : Level) → Fits (numbers_of l)
fits Sample = omega arith
fits Level128 = omega arith
fits Level192 = omega arith
fits Level256 = omega arith

-- a row with the facts that its type has
abbrev row_of : (n : Numbers) → Fits n → Sizes
row_of n h =
    record {
      m = n.m;
      n = n.n;
      t = n.t;
      k = n.k;
      rows = n.rows;
      vector = n.vector;
      body = n.body;
      public_key = n.public_key;
      secret_key = n.secret_key;
      ticket = n.ticket;
      capacity = n.capacity;
      work_bytes = n.work_bytes;
      work_places = n.work_places;
      matrix_rows = h.rows;
      columns = h.columns;
      vector_bits = h.vector;
      body_bits = h.body;
      front = h.front;
      back = h.back;
      code = h.code;
      weight = h.weight;
      corrects = h.corrects;
      field = h.positive;
      narrow = h.narrow;
      small = h.small;
      public_bytes = h.matrix;
      secret_bytes = h.secret;
      ticket_bytes = h.ticket;
      hashed = h.capacity;
      order = h.places;
      vectors = h.bytes;
      mixed = h.mixed;
      elements = h.elements;
      values = h.values;
      steps = h.steps;
      tests = h.tests;
    }

abbrev pub sizes_of : Level → Sizes
sizes_of l = row_of (numbers_of l) (fits l)

-- the numbers of a row, and how they hang together
abbrev pub numbers : Sizes → Numbers
numbers s = record { m = s.m; n = s.n; t = s.t; k = s.k; rows = s.rows; vector = s.vector; body = s.body; public_key = s.public_key; secret_key = s.secret_key; ticket = s.ticket; capacity = s.capacity; work_bytes = s.work_bytes; work_places = s.work_places }

abbrev pub Lawful : Sizes → Type 0
Lawful s = Fits (numbers s)
