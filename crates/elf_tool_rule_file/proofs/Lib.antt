mod RuleFiles
