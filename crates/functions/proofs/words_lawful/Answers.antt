use Rattle.functions.proofs.Words.{length_bits, number_bits, number_below, bits_number, get_or_bits, length_swapped, swapped_twice}
use Rattle.functions.proofs.words_lawful.Goals as goal

pub returns : goal.returns
returns c = record {
  length_bits = length_bits;
  number_bits = number_bits;
  number_below = number_below;
  bits_number = bits_number;
  get_or_bits = get_or_bits;
  length_swapped = length_swapped;
  swapped_twice = swapped_twice;
}
