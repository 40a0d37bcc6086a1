-- Each row of the table is lawful, since its type says so.
use Rattle.std.proofs.Common.{arith}
use Rattle.levels.specs.declared.Sizes.{Sizes}
use Rattle.levels.specs.Table.{Lawful}

pub lawful : (s : Sizes) → Lawful s
lawful s =
    record {
      rows = s.matrix_rows;
      columns = s.columns;
      vector = s.vector_bits;
      body = s.body_bits;
      shorter = omega (arith, s.back);
      code = s.code;
      weight = s.weight;
      matrix = s.public_bytes;
      secret = s.secret_bytes;
      ticket = s.ticket_bytes;
      capacity = s.hashed;
      places = s.order;
      bytes = s.vectors;
      small = s.small;
      positive = s.field;
      narrow = s.narrow;
      corrects = s.corrects;
      front = s.front;
      back = s.back;
      elements = s.elements;
      mixed = s.mixed;
      values = s.values;
      steps = s.steps;
      tests = s.tests;
    }
