-- Two calls that keep all else keep it together, so what a run of calls changes is what one may.
use Rattle.std.proofs.Common.{◌∙◌, arith}
use Rattle.sb_shelf.specs.declared.shelf.Out.{Out}
use Rattle.sb_shelf.specs.World.{World, SameOut, OnlyReads, OnlyOutput, OnlyWrites}

-- an output that two calls leave alone is as it was
pub same_out_twice : {out : Out} {a b c : World}
    → SameOut out a b → SameOut out b c → SameOut out a c
same_out_twice first second = record {
  is_created = second.is_created ∙ first.is_created;
  bytes = second.bytes ∙ first.bytes;
}

-- two calls that only read are as one
pub only_reads_twice : {a b c : World} → OnlyReads a b → OnlyReads b c → OnlyReads a c
only_reads_twice first second = record {
  under = λ path. second.under path ∙ first.under path;
  tells_left = second.tells_left ∙ first.tells_left;
  outs = λ out. same_out_twice (first.outs out) (second.outs out);
  asked_outputs = second.asked_outputs ∙ first.asked_outputs;
  read_faults = omega (arith, first.read_faults, second.read_faults);
  file_faults = second.file_faults ∙ first.file_faults;
  said_faults = second.said_faults ∙ first.said_faults;
}

-- two calls that change one output only are as one
pub only_output_twice : {out : Out} {a b c : World}
    → OnlyOutput out a b → OnlyOutput out b c → OnlyOutput out a c
only_output_twice first second = record {
  under = λ path. second.under path ∙ first.under path;
  left = second.left ∙ first.left;
  others = λ o differs. same_out_twice (first.others o differs) (second.others o differs);
  tells_bytes = second.tells_bytes ∙ first.tells_bytes;
  asked_inputs = second.asked_inputs ∙ first.asked_inputs;
  read_faults = second.read_faults ∙ first.read_faults;
}

-- two calls that only write to an output are as one
pub only_writes_twice : {out : Out} {a b c : World}
    → OnlyWrites out a b → OnlyWrites out b c → OnlyWrites out a c
only_writes_twice {out} first second = record {
  output = only_output_twice first.output second.output;
  is_created = second.is_created ∙ first.is_created;
  asked_outputs = second.asked_outputs ∙ first.asked_outputs;
  own_faults = omega (arith, first.own_faults, second.own_faults);
  other_faults = second.other_faults ∙ first.other_faults;
}
