mod Reduced
