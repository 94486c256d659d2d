-- The number, the place and the layer of each refusal.
--
--   alphabet_report   of what an alphabet refuses; the place is the point's index
--   load_report       of what the loading of a block refuses; the place is the word's number in its own list
use Rattle.std.specs.Prelude.{ℕ}
use Rattle.faults.specs.declared.alphabet.AlphabetFault.{AlphabetFault}
use Rattle.faults.specs.declared.alphabet.AlphabetFault.TheVariants as alphabet
use Rattle.faults.specs.declared.load.LoadFault.{LoadFault}
use Rattle.faults.specs.declared.load.LoadFault.TheVariants.{ExtraBits, ChannelCount, ReceivedCount, Diagonal, Part, Received}
use Rattle.faults.specs.declared.report.Layer.{Layer}
use Rattle.faults.specs.declared.report.Layer.TheVariants.{Alphabet, Decoder}
use Rattle.faults.specs.declared.report.Report.{Report}

abbrev told : Layer → ℕ → ℕ → Report
told l n p = record { number = n; place = p; layer = l }

abbrev pub alphabet_report : AlphabetFault → Report
alphabet_report alphabet.PamSize = told Alphabet 10 0
alphabet_report alphabet.TableSize = told Alphabet 11 0
alphabet_report (alphabet.Part i) = told Alphabet 12 i
alphabet_report (alphabet.Repeated i) = told Alphabet 13 i
alphabet_report alphabet.TargetOrGain = told Alphabet 14 0
alphabet_report alphabet.Index = told Alphabet 15 0

abbrev pub load_report : LoadFault → Report
load_report ExtraBits = told Decoder 1 0
load_report ChannelCount = told Decoder 21 0
load_report ReceivedCount = told Decoder 22 0
load_report (Diagonal k) = told Decoder 23 k
load_report (Part k) = told Decoder 24 k
load_report (Received k) = told Decoder 26 k
