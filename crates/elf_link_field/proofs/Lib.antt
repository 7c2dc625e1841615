mod Patched
