use Rattle.std.proofs.lemmas.List.Elements.{All-weaker}
use Rattle.elf_link_files.specs.SameNames.{IsNamedIn}
use Rattle.elf_link_files.specs.declared.same_names.Named.TheVariants.{Symbol}
use Rattle.elf_link_names.specs.LongSymbols.{IsSiteOfEntry}
use Rattle.elf_link_names.proofs.long_symbols.LongSymbols.new.Goals as goal

pub first_of_names-requires : goal.first_of_names-requires
first_of_names-requires c =
    let fs = c.args.inputs.now in
    rw (c.objects.ensures, c.deref.ensures.value)
    (All-weaker (IsSiteOfEntry fs) (IsNamedIn fs Symbol) (λ p is. is.symbol) c.loop-file.sites.items c.loop-file.invariant)

pub invariant_of-result : goal.invariant_of-result
invariant_of-result c = record {
  same = record {
    entries = c.loop-file.invariant;
    equal = rw (c.objects.ensures, c.deref.ensures.value) at c.in_ok-firsts.ensures;
  };
}
