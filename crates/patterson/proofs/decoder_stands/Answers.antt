use Rattle.patterson.proofs.Theorems.{column_value, syndrome_value, key_solution, any_solution, one_vector, zero_syndrome, euclid_start, euclid_step, euclid_end, euclid_inverse, rest_zeros, invertible, square_root, key_root, bounds, decoder_complete, decoder_sound, decoder_refuses, by_coefficients, decoding, out_of_bounds}
use Rattle.patterson.proofs.decoder_stands.Goals as goal

pub returns : goal.returns
returns g c = record {
  column = λ f q. column_value q;
  syndrome = λ f q. syndrome_value q;
  key = λ f q. key_solution q;
  located = λ f q. any_solution q;
  once = λ f q. one_vector q;
  zero = λ f q. zero_syndrome q;
  start = λ f q. euclid_start q;
  step = λ f q. euclid_step q;
  divisor = λ f q. euclid_end q;
  inverse = λ f q. euclid_inverse q;
  rest = λ f q. rest_zeros q;
  invertible = λ f q. invertible q;
  root = λ f q. square_root q;
  begin = λ f q. key_root q;
  bounds = λ f q. bounds q;
  complete = λ f q. decoder_complete q;
  sound = λ f q. decoder_sound q;
  refused = λ f q. decoder_refuses q;
  coefficients = λ f q. by_coefficients q;
  decoding = λ f q. decoding q;
  out = λ f q. out_of_bounds q;
}
